-- Texts that are moved piece by piece.
use Rattle.std.proofs.Common.{◌≡◌, ℕ, ◌+◌, ◌<◌, ◌≤◌, List, ◌++◌, take, drop, length, Option, Some, sym, ap, ◌∙◌, arith, append_assoc}
use Rattle.std.proofs.Common.{length-append, length-drop, ◌-◌}
use Rattle.std.proofs.lemmas.List.{take-append-drop, append-nil, length-take, length-take-le, take_all}
use Rattle.std.proofs.Math.Seq.{take-add}
use Rattle.std.specs.Option.{ForSome}
use Rattle.ips_io.specs.Files.{Files, file_of, Takes}
use Rattle.ips_io.specs.Shelves.{Moves, IsWhole, IsTooLong}

-- what follows place i, as a range to the end of the text
pub rest_from : (text : List ℕ) (i : ℕ) → take (length text - i) (drop i text) ≡ drop i text
rest_from text i = let cut = length-drop i text in take_all (length text - i) (drop i text) (omega arith)

-- after the first i bytes of a text the next n are taken: the first i + n are
pub takes_next : (before mid after : Option (List ℕ)) (text : List ℕ) (i n : ℕ) → Takes before mid (take i text) →
    Takes mid after (take n (take (length text - i) (drop i text))) → Takes before after (take (i + n) text)
takes_next before mid after text i n first next old is =
    let all = next (old ++ take i text) (first old is) in
    let grouped = append_assoc old (take i text) (take n (take (length text - i) (drop i text))) in
    let piece = ap (λ xs. old ++ (take i text ++ take n xs)) (rest_from text i) in
    let joined = take-add i n text in
    all ∙ ap Some (grouped ∙ piece ∙ ap (λ xs. old ++ xs) (sym joined))

-- of the named file, what was read and what is left
abbrev pub Reads : Option Files → Option (List ℕ) → List ℕ → List ℕ → Type 0
Reads files left name read = ForSome files (λ t. (rest : List ℕ) × (left ≡ Some rest) × (file_of t name ≡ Some (read ++ rest)))

-- a piece goes from what is left to what was read
pub reads_next : (files files' : Option Files) (left left' : Option (List ℕ)) (name read into : List ℕ) (n : ℕ) → files' ≡ files →
    Reads files left name read → Moves left left' n into → Reads files' left' name (read ++ take n into)
reads_next files files' left left' name read into n same reads moves t known =
    let before = reads t (sym same ∙ known) in
    let moved = moves before.0 before.1 in
    let whole = append_assoc read (take n into) (drop n before.0) in
    let piece = ap (λ xs. xs ++ drop n before.0) moved.bytes in
    let both = ap (λ xs. read ++ xs) (piece ∙ take-append-drop n before.0) in
    (drop n before.0, moved.rest, before.2 ∙ ap Some (sym (whole ∙ both)))

-- where nothing is left, the file is what was read
pub reads_end : (files files' : Option Files) (left left' : Option (List ℕ)) (name read into : List ℕ) (n : ℕ) → n ≡ 0 → files' ≡ files →
    Reads files left name read → Moves left left' n into → IsWhole files' name read
reads_end files files' left left' name read into n none same reads moves t known =
    let before = reads t (sym same ∙ known) in
    let moved = moves before.0 before.1 in
    let over = moved.ended.0 none in
    before.2 ∙ ap Some (ap (λ xs. read ++ xs) over ∙ append-nil read)

-- where a piece exceeds what may still be read, the file is too long
pub reads_beyond : (files files' : Option Files) (left left' : Option (List ℕ)) (name read into : List ℕ) (n most : ℕ) → n ≤ length into →
    most < length read + n → files' ≡ files → Reads files left name read → Moves left left' n into → IsTooLong files' name most
reads_beyond files files' left left' name read into n most within beyond same reads moves t known =
    let before = reads t (sym same ∙ known) in
    let moved = moves before.0 before.1 in
    let piece = length-take-le n into within in
    let lengths = ap length moved.bytes in
    let cut = length-take n before.0 in
    let all = length-append read before.0 in
    (read ++ before.0, before.2, omega arith)

-- a piece that fits what may still be read keeps what was read within the limit
pub within_limit : (now old len n most : ℕ) (into : List ℕ) → now ≡ old + length (take n into) → n ≤ most - len → len ≡ old → old ≤ most →
    now ≤ most
within_limit now old len n most into longer fits is within = let cut = length-take n into in omega arith
