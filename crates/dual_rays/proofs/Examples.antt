-- Examples of the certificates of prices and of rays.
use Rattle.std.specs.Prelude.{◌≡◌, [], ◌∷◌, Some, ℤ, pos, negsuc}
use Rattle.std.proofs.Common.{refl}
use Rattle.frac128.specs.Gcd.{gcd}
use Rattle.frac128.specs.Rationals.{over, rational}
use Rattle.frac128.specs.Fractions.{Fraction}
use Rattle.dual_rays.specs.Multiples.{lcm}
use Rattle.dual_rays.specs.Certificates.{certificate_of_prices, certificate_of_ray}

abbrev fraction : ℤ → ℤ → Fraction
fraction n d = record { num = n; den = d }

-- the prices 1/2, 0 and -2/3
three_prices : certificate_of_prices (fraction (pos 1) (pos 2) ∷ fraction (pos 0) (pos 1) ∷ fraction (negsuc 1) (pos 3) ∷ [])
    ≡ Some (record { q = pos 6; y = (0, pos 3) ∷ (2, negsuc 3) ∷ [] })
unfolding rational over gcd lcm
three_prices = refl

-- the rays (2/3, -4/3) and (0, 6, 9)
thirds : certificate_of_ray (fraction (pos 2) (pos 3) ∷ fraction (negsuc 3) (pos 3) ∷ [])
    ≡ Some (record { q = pos 0; y = (0, pos 1) ∷ (1, negsuc 1) ∷ [] })
unfolding rational over gcd lcm
thirds = refl

nines : certificate_of_ray (fraction (pos 0) (pos 1) ∷ fraction (pos 6) (pos 1) ∷ fraction (pos 9) (pos 1) ∷ [])
    ≡ Some (record { q = pos 0; y = (1, pos 2) ∷ (2, pos 3) ∷ [] })
unfolding rational over gcd lcm
nines = refl

-- nothing but zeros
zeros : certificate_of_ray (fraction (pos 0) (pos 1) ∷ []) ≡ Some (record { q = pos 0; y = [] })
unfolding rational over gcd lcm
zeros = refl
