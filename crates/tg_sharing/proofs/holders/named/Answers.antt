use Rattle.std.proofs.Common.{◌≡◌, ◌∙◌, ap, refl, min, ◌==◌, bit_and, arith}
use Rattle.std.specs.Int.{bit_at}
use Rattle.bitflags.proofs.OnLiterals.{bitflags_on_literals}
use Rattle.std.proofs.lemmas.Nat.{and_le_r}
use Rattle.std.proofs.lemmas.Nat.Bits.{bit_at_and, bit_at-lt}
use Rattle.tg_names.specs.declared.right_sets.Right.{Right}
use Rattle.tg_names.specs.declared.right_sets.Right.TheVariants.{T, G, R, W, E, A, D}
use Rattle.tg_names.specs.Sets.{bit_of}
use Rattle.tg_sharing.proofs.holders.named.Goals as goal

-- each right has its bit among the seven
bit_among : (right : Right) → bit_at 127 (bit_of right) ≡ 1
bit_among T = refl
bit_among G = refl
bit_among R = refl
bit_among W = refl
bit_among E = refl
bit_among A = refl
bit_among D = refl

pub returns-clause-named : goal.returns-clause-named
unfolding bitflags_on_literals
returns-clause-named c = let bits : c.truncate.new.self.0 ≡ bit_and c.args.rights.0 127 = c.truncate.ensures tt in omega (arith, bits, and_le_r c.args.rights.0 127)

pub returns-clause-members : goal.returns-clause-members
unfolding bitflags_on_literals
returns-clause-members c = λ right.
    let same : min (bit_at c.args.rights.0 (bit_of right)) (bit_at 127 (bit_of right)) ≡ bit_at c.args.rights.0 (bit_of right) = omega (arith, bit_among right, bit_at-lt c.args.rights.0 (bit_of right)) in
    ap (λ n. bit_at n (bit_of right) == 1) (c.truncate.ensures tt) ∙ ap (λ n. n == 1) (bit_at_and c.args.rights.0 127 (bit_of right) ∙ same)
