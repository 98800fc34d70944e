use Rattle.std.proofs.Common.{eqb, arith}
use Rattle.std.specs.Int.{w8}
use Rattle.std.proofs.lemmas.Simd.{bitmask_splat}
use Rattle.tg_words.proofs.lines.line_feeds.Goals as goal

pub returns : goal.returns
returns c = bitmask_splat w8 eqb c.args.bytes 16 10 c.fits-bytes.0 (omega arith)
