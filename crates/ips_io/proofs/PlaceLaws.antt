-- Files in a buffer: the search for a name, and the change of a content.
use Rattle.std.proofs.Common.{◌≡◌, ℕ, ◌+◌, ◌-◌, ◌≤◌, List, ◌++◌, take, drop, length, ap, ◌∙◌, arith, append_assoc, length-drop}
use Rattle.std.proofs.lemmas.List.{take-take}
use Rattle.std.proofs.Math.Seq.{take-append-add, take-append_seam, drop-append_seam}
use Rattle.ips_io.specs.Places.{edited}
use Rattle.ips_io.specs.declared.places.Part.{Part}

-- a buffer turned so that a part stands last, cut, lengthened and turned back: other bytes in place of the part
pub replaced : (buffer bytes : List ℕ) (p : Part) (after : ℕ) (turned cut longer now : List ℕ) →
    after ≡ length buffer - (p.start + p.length) → p.start + p.length ≤ length buffer → turned ≡ drop (p.start + p.length) buffer
    ++ take (p.start + p.length) buffer → cut ≡ take (after + p.start) turned → longer ≡ cut ++ bytes → now ≡ drop after longer
    ++ take after longer → now ≡ edited buffer p bytes
replaced buffer bytes p after turned cut longer now is within e1 e2 e3 e4 =
    let end = p.start + p.length in
    let rest = drop end buffer in
    let front = take p.start buffer in
    let size : after ≡ length rest = let n = length-drop end buffer in omega arith in
    let before : p.start ≤ end = omega arith in
    let cut_is : cut ≡ rest ++ front =
    e2 ∙ ap (λ k. take (k + p.start) turned) size ∙ ap (take (length rest + p.start)) e1
    ∙ take-append-add rest (take end buffer) p.start ∙ ap (λ xs. rest ++ xs) (take-take p.start end buffer before)
    in
    let longer_is : longer ≡ rest ++ (front ++ bytes) = e3 ∙ ap (λ xs. xs ++ bytes) cut_is ∙ append_assoc rest front bytes in
    e4 ∙ ap (λ k. drop k longer ++ take k longer) size ∙ ap (λ xs. drop (length rest) xs ++ take (length rest) xs) longer_is
    ∙ ap (λ xs. xs ++ take (length rest) (rest ++ (front ++ bytes))) (drop-append_seam rest (front ++ bytes))
    ∙ ap (λ xs. (front ++ bytes) ++ xs) (take-append_seam rest (front ++ bytes))
