-- The blocks of the workers, joined from the last one on.
use Rattle.std.proofs.Common.{◌≡◌, ℕ, ◌<◌, ◌≤◌, ◌+◌, ◌*◌, ◌/◌, ◌^◌, Bool, List, [], ◌∷◌, ◌++◌, sym, ap, subst, ◌∙◌, length, get_or, Some, Result, Ok, IfOk, replicate, arith}
use Rattle.std.proofs.lemmas.Option.{slice_get-get_or}
use Rattle.std.proofs.lemmas.List.{get_or_append_left, length-append}
use Rattle.std.proofs.Math.Nat.{mul-div_cancel_left, zero-div, zero-mul, le-div_iff_mul-le, div-mul-le_self, div-le_of_le-mul, mul-le-mul, mul-le-mul_right}
use Rattle.std.proofs.Math.Seq.{get_or-append_seam}
use Rattle.tg_names.specs.declared.right_sets.Right.{Right}
use Rattle.tg_graph.specs.Limits.{most_vertices, most_workers}
use Rattle.tg_rows.specs.Rows.{Entries}
use Rattle.tg_islands.specs.Numbering.{AreCounted}
use Rattle.tg_analysis.specs.Holdings.{JoinsHoldings}
use Rattle.tg_analysis.specs.Gathered.{Gathers}
use Rattle.tg_analysis.specs.Tables.{block_start, AreBlocks}
use Rattle.tg_analysis.proofs.Gathered.{gathers-none, gathers-joined}

pub product_fits : (block count : ℕ) → block ≤ most_workers → count ≤ most_vertices → block * count < 2 ^ 64
product_fits block count few small =
    let most : block * count ≤ most_workers * most_vertices = mul-le-mul {n₁ = block} {m₁ = count} {n₂ = most_workers} {m₂ = most_vertices} few small in omega (arith, most)

pub starts_rise : (count workers block : ℕ) → 0 < workers → block * count / workers ≤ (block + 1) * count / workers
starts_rise count workers block some =
    (le-div_iff_mul-le {k = workers} {x = block * count / workers} {y = (block + 1) * count} some).1 (
    let low : block * count / workers * workers ≤ block * count = div-mul-le_self (block * count) workers in
    let high : block * count ≤ (block + 1) * count = mul-le-mul_right {m = block} {n = block + 1} count (omega arith) in
    omega (arith, low, high)
    )

first_start : (count workers : ℕ) → 0 * count / workers ≡ 0
first_start count workers = ap (λ n. n / workers) (zero-mul count) ∙ zero-div workers

last_start : (count workers : ℕ) → 0 < workers → workers * count / workers ≡ count
last_start count workers some = mul-div_cancel_left count some

start_within : (count workers block : ℕ) → block ≤ workers → block * count / workers ≤ count
start_within count workers block h =
    div-le_of_le-mul workers {m = block * count} {n = count} (mul-le-mul_right {m = block} {n = workers} count h)

same_default : {A : Type 0} (xs : List A) (n : ℕ) (d e : A) → n < length xs → get_or xs n d ≡ get_or xs n e
same_default xs n d e h = let some : Some (get_or xs n d) ≡ Some (get_or xs n e) = sym (slice_get-get_or xs n d h) ∙ slice_get-get_or xs n e h in cc

module _ (es : Entries) (numbers : List ℕ) (right : Right) (workers : ℕ) (some : 0 < workers) where
  -- before any block is joined
  pub blocks-none : (blocks count : ℕ) (held : List (List Bool)) → blocks ≡ workers → AreCounted numbers count → held ≡ replicate count [] → Gathers es numbers right (block_start blocks workers (length es)) (length es) held
  blocks-none blocks count held all counted none =
      let start : block_start blocks workers (length es) ≡ length es = ap (λ b. b * length es / workers) all ∙ last_start (length es) workers some in
      subst (λ first. Gathers es numbers right first (length es) held) (sym start) (subst (Gathers es numbers right (length es) (length es)) (sym none) (gathers-none es numbers right count (length es) counted))

  -- when all are joined
  pub blocks-all : (blocks : ℕ) (held : List (List Bool)) → blocks ≡ 0 → Gathers es numbers right (block_start blocks workers (length es)) (length es) held → Gathers es numbers right 0 (length es) held
  blocks-all blocks held none g =
      let start : block_start blocks workers (length es) ≡ 0 = ap (λ b. b * length es / workers) none ∙ first_start (length es) workers in
      subst (λ first. Gathers es numbers right first (length es) held) start g

  module _ {E : Type 0} (all rest : List (Result (List (List Bool)) E)) (block : Result (List (List Bool)) E) (items : all ≡ rest ++ block ∷ []) (each : AreBlocks es numbers right workers all) where
    abbrev IsBlock : ℕ → Result (List (List Bool)) E → Type 0
    IsBlock b r = IfOk r (λ held. Gathers es numbers right (block_start b workers (length es)) (block_start (b + 1) workers (length es)) held)

    each_there : (b : ℕ) → b < length rest + 1 → IsBlock b (get_or (rest ++ block ∷ []) b block)
    each_there b h =
        let n : length all ≡ length rest + 1 = ap length items ∙ length-append rest (block ∷ []) in
        subst (λ (xs : List (Result (List (List Bool)) E)). IsBlock b (get_or xs b block)) items (each b block (omega (arith, n, h)))

    pub blocks-fewer : AreBlocks es numbers right workers rest
    blocks-fewer b d within =
        subst (IsBlock b) (get_or_append_left rest (block ∷ []) block b within ∙ same_default rest b block d within) (each_there b (omega arith))

    pub blocks-last : (part : List (List Bool)) → block ≡ Ok part → Gathers es numbers right (block_start (length rest) workers (length es)) (block_start (length rest + 1) workers (length es)) part
    blocks-last part is = subst (IsBlock (length rest)) (get_or-append_seam rest block [] block ∙ is) (each_there (length rest) (omega arith))

  -- one block more
  pub blocks-joined : (before after : ℕ) (old new block : List (List Bool)) → after ≡ before + 1 → after ≤ workers → Gathers es numbers right (block_start after workers (length es)) (length es) old → Gathers es numbers right (block_start before workers (length es)) (block_start (before + 1) workers (length es)) block → JoinsHoldings old new block → Gathers es numbers right (block_start before workers (length es)) (length es) new
  blocks-joined before after old new block next within g more joins =
      let h = subst (λ b. Gathers es numbers right (block_start b workers (length es)) (length es) old) next g in
      gathers-joined es numbers right (block_start before workers (length es)) (block_start (before + 1) workers (length es)) (length es) old new block (starts_rise (length es) workers before some) (start_within (length es) workers (before + 1) (omega arith)) h more joins
