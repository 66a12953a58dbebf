-- Numbers of texts and decimal texts, computed.
use Rattle.std.specs.Prelude.{◌≡◌, [], ◌∷◌, codes, refl, None, Some, pos, negsuc, true, false}
use Rattle.std.specs.Fmt.{digits}
use Rattle.mps_defs.specs.Numbers.{exact_units}
use Rattle.worked_examples.specs.Texts.{ReadsNumbers, WritesDecimals}
use Rattle.mps_defs.specs.declared.reading.Number.TheVariants.{Dec, Large}

pub numbers : ReadsNumbers (
    (codes "2.50", Some (Dec (pos 25) 1))
    ∷ (codes "1e3", Some (Dec (pos 1000) 0))
    ∷ (codes "-0", Some (Dec (pos 0) 0))
    ∷ (codes "1e20", Some (Large false))
    ∷ (codes "-99999999999999999999", Some (Dec (negsuc 99999999999999999998) 0))
    ∷ (codes "-InF", Some (Large true))
    ∷ (codes "+iNfinity", Some (Large false))
    ∷ (codes "00000000000000000000000000000012", Some (Dec (pos 12) 0))
    ∷ (codes "000000000000000000000000000000012", None)
    ∷ (codes ".", None)
    ∷ (codes "5.", Some (Dec (pos 5) 0))
    ∷ (codes "+.5e-1", Some (Dec (pos 5) 2))
    ∷ (codes "1.2.3", None)
    ∷ (codes "1e.5", None)
    ∷ (codes "1e", None)
    ∷ (codes "1e-0003", Some (Dec (pos 1) 3))
    ∷ (codes "1e00001", None)
    ∷ (codes "1d3", None)
    ∷ (codes "--1", None)
    ∷ ([], None)
    ∷ (codes "-", None)
    ∷ (codes "nan", None)
    ∷ (codes "0e9999", Some (Dec (pos 0) 0))
    ∷ (codes "-1e9999", Some (Large true))
    ∷ [])
numbers = refl

pub scaled_1 : exact_units (Dec (pos 25) 1) 3 ≡ Some (pos 2500)
scaled_1 = refl

pub scaled_2 : exact_units (Dec (pos 25) 1) 0 ≡ None
scaled_2 = refl

pub scaled_3 : exact_units (Dec (pos 10) 1) 0 ≡ Some (pos 1)
scaled_3 = refl

pub decimal_texts : WritesDecimals (
    (negsuc 2499, 3, codes "-2.5")
    ∷ (pos 5, 2, codes "0.05")
    ∷ (pos 0, 2, codes "0")
    ∷ (negsuc 299, 2, codes "-3")
    ∷ [])
unfolding digits
decimal_texts = refl
