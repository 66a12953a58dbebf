-- Shelves in memory: a file that is put into a table, and a piece that is read.
use Rattle.std.proofs.Common.{◌≡◌, ℕ, ◌+◌, ◌-◌, min, ◌≤◌, Bool, true, false, List, [], ◌∷◌, ◌++◌, take, drop, length, Some, bytes_eq}
use Rattle.std.proofs.Common.{refl, sym, ap, ◌∙◌, arith, length-drop}
use Rattle.std.proofs.lemmas.List.{drop-drop, drop-take, take-take, take_at, length-take-le}
use Rattle.std.proofs.lemmas.Slice.Eq.{bytes_eq-Decides}
use Rattle.ips_io.specs.Files.{Files, file_of}
use Rattle.ips_io.specs.Places.{part_of}
use Rattle.ips_io.specs.Shelves.{Moved}
use Rattle.ips_io.specs.Tables.{with_file}
use Rattle.ips_io.specs.declared.places.Part.{Part}
use Rattle.ip_defs.proofs.TextLaws.{text_self, text_same}

-- a text that equals one of two different texts is not the other
other_text : (f name other : List ℕ) → bytes_eq f name ≡ true → bytes_eq other name ≡ false → bytes_eq f other ≡ false
other_text f name other same differs = by (bytes_eq f other) refl where
  by : (t : Bool) → bytes_eq f other ≡ t → bytes_eq f other ≡ false
  by false e = e
  by true e =
      let one : other ≡ name = sym (text_same f other e) ∙ text_same f name same in
      let both = (bytes_eq-Decides other name).1 one in
      cc

-- the file that was put
pub put_file : (fs : Files) (name bytes : List ℕ) → file_of (with_file fs name bytes) name ≡ Some bytes
put_file [] name bytes = rw (text_self name) refl
put_file (f ∷ fs) name bytes = by (put_file fs name bytes) (bytes_eq f.0 name) refl where
  by : file_of (with_file fs name bytes) name ≡ Some bytes → (t : Bool) → bytes_eq f.0 name ≡ t →
      file_of (with_file (f ∷ fs) name bytes) name ≡ Some bytes
  by rest true e = rw (e, e) refl
  by rest false e = rw (e, e) rest

-- the others, which stay
pub put_others : (fs : Files) (name bytes other : List ℕ) → bytes_eq other name ≡ false →
    file_of (with_file fs name bytes) other ≡ file_of fs other
put_others [] name bytes other differs = rw (other_text name name other (text_self name) differs) refl
put_others (f ∷ fs) name bytes other differs = by (put_others fs name bytes other differs) (bytes_eq f.0 name) (bytes_eq f.0 other) refl
    refl where
      by : file_of (with_file fs name bytes) other ≡ file_of fs other → (t u : Bool) → bytes_eq f.0 name ≡ t → bytes_eq f.0 other ≡ u →
          file_of (with_file (f ∷ fs) name bytes) other ≡ file_of (f ∷ fs) other
      by rest true u e d = let gone = other_text f.0 name other e differs in rw (e, gone) refl
      by rest false true e d = rw (e, d) refl
      by rest false false e d = rw (e, d) rest

-- a part without its first bytes
pub rest_of_part : (b : List ℕ) (p : Part) (n : ℕ) → n ≤ p.length → part_of b (record { start = p.start + n; length = p.length - n })
    ≡ drop n (part_of b p)
rest_of_part b p n fits =
    let left : n + (p.length - n) ≡ p.length = omega arith in
    sym (ap (λ k. drop n (take k (drop p.start b))) (sym left) ∙ drop-take n (p.length - n) (drop p.start b)
    ∙ ap (take (p.length - n)) (drop-drop n p.start b))

-- the next piece of a part
pub moved_part : (b : List ℕ) (p : Part) (n : ℕ) (into front : List ℕ) → p.start + p.length ≤ length b → n ≤ p.length → min p.length 1 ≤ n
    → front ≡ take n (drop p.start b) → Moved (part_of b p) (Some (part_of b (record { start = p.start + n; length = p.length - n }))) n
    (front ++ drop n into)
moved_part b p n into front within fits some is =
    let behind = length-drop p.start b in
    let size = length-take-le n (drop p.start b) (omega arith) in
    let whole = length-take-le p.length (drop p.start b) (omega arith) in
    record {
      rest = ap Some (rest_of_part b p n fits);
      bytes = take_at front (drop n into) n (ap length is ∙ size) ∙ is ∙ sym (take-take n p.length (drop p.start b) fits);
      ended = (
        λ none. let empty : p.length ≡ 0 = omega arith in ap (λ k. take k (drop p.start b)) empty,
        λ empty. let none = ap length empty in omega arith,
      );
    }
