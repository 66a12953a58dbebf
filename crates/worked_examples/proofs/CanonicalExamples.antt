-- Canonical texts, computed.
use Rattle.std.specs.Prelude.{◌≡◌, refl, true}
use Rattle.std.specs.Fmt.{digits}
use Rattle.mps_defs.specs.CanonicalText.{canonical_text, is_printable}
use Rattle.mps_defs.specs.Faults.{model_of}
use Rattle.worked_examples.specs.Texts.{plain, negative_range_text, range_text}

pub canonical_is : canonical_text (model_of negative_range_text plain) ≡ range_text
unfolding digits
canonical_is = refl

pub read_back : model_of range_text plain ≡ model_of negative_range_text plain
read_back = refl

pub printable : is_printable (model_of negative_range_text plain) ≡ true
printable = refl
