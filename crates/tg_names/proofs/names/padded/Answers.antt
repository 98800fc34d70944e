use Rattle.std.proofs.Common.{◌∙◌, ◌-◌, ◌*◌, ◌%◌, ◌^◌, ap, length}
use Rattle.std.specs.Int.{to_be_bytes, w128}
use Rattle.tg_names.proofs.NameBytes.{moved_to_front, padded_bytes}
use Rattle.tg_names.proofs.names.padded.Goals as goal

pub returns : goal.returns
returns c = c.to_be_bytes.ensures ∙ (ap (to_be_bytes w128) (ap (λ n. n * 2 ^ (8 * (16 - length c.args.bytes.now)) % 2 ^ 128) c.number_spelled.ensures ∙ moved_to_front c.args.bytes.now c.type_inv.bytes c.requires.within) ∙ padded_bytes c.args.bytes.now c.type_inv.bytes c.requires.within)
