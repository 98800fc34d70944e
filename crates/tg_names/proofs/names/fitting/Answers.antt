use Rattle.std.proofs.Common.{◌≡◌, ◌≤◌, ◌<◌, ℕ, false, get_or, refl}
use Rattle.std.proofs.lemmas.Simd.{zip2_of_maps, zip2_splat, splat_is_map}
use Rattle.tg_names.specs.Names.{fits_at, AllFit}
use Rattle.tg_names.proofs.NameLanes.{counted}
use Rattle.tg_names.proofs.names.fitting.Goals as goal

-- the lanes are computed byte by byte: letters, digits and `_`
told : (c : goal.After-trailing_ones) → (c.trailing_ones.result ≤ 16) × AllFit c.args.bytes.now c.trailing_ones.result × (c.trailing_ones.result < 16 → fits_at 1 (get_or c.args.bytes.now c.trailing_ones.result 0) ≡ false)
told c =
    let v = c.args.bytes.now in
    let long = c.told-bytes in
    counted v long c.fits-bytes _ _
    (zip2_of_maps _ _ _ v
    (zip2_of_maps _ _ _ v
    (zip2_of_maps _ _ _ v (zip2_splat {Y = ℕ} _ v 16 _ long) (splat_is_map v 16 _ long))
    (zip2_of_maps _ _ _ v (zip2_splat {Y = ℕ} _ v 16 _ long) (splat_is_map v 16 _ long)))
    (zip2_splat {Y = ℕ} _ v 16 _ long))
    c.trailing_ones.result c.trailing_ones.ensures refl

pub returns-clause-few : goal.returns-clause-few
returns-clause-few c = (told c).0

pub returns-clause-fit : goal.returns-clause-fit
returns-clause-fit c = (told c).1

pub returns-clause-stops : goal.returns-clause-stops
returns-clause-stops c = (told c).2
