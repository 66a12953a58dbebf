-- Tables of files in a buffer: what a change of the buffer makes of the table.
use Rattle.std.proofs.Common.{subst, ◌≡◌, ℕ, zero, suc, ◌+◌, ◌<◌, ◌≤◌, Bool, true, false, List, [], ◌∷◌, ◌++◌, take, drop, length}
use Rattle.std.proofs.Common.{get_or, set, Option, Some, None, option_map, bytes_eq, refl, sym, ap, ◌∙◌, arith, append_assoc}
use Rattle.std.proofs.Common.{length-append, length-drop}
use Rattle.std.proofs.lemmas.List.Sums.{sum_by-cons, sum_by-append}
use Rattle.std.proofs.lemmas.List.{drop-drop, length-take-le, take-append-drop}
use Rattle.std.proofs.Math.Seq.{take-add, take-append_seam, drop-append_seam, take-length}
use Rattle.std.specs.Bool.{OnTrue, OnFalse, IsTrue}
use Rattle.ips_io.specs.Files.{Files, file_of}
use Rattle.ips_io.specs.Places.{both, total, place_of, shifted, part_of, edited, files_of, resized}
use Rattle.ips_io.specs.Tables.{with_file, size_of}
use Rattle.ips_io.specs.declared.places.Lengths.{Lengths}
use Rattle.ips_io.specs.declared.places.Place.{Place}
use Rattle.ips_io.specs.declared.places.Part.{Part}
use Rattle.ip_defs.proofs.ListLaws.{unmapped}

-- three texts in a row, taken apart by the lengths of the first and the second
pub record Apart (a m d : List ℕ) (n c : ℕ) : Type 0 where
  pub first : take n ((a ++ m) ++ d) ≡ a
  pub second : take c (drop n ((a ++ m) ++ d)) ≡ m
  pub third : drop (n + c) ((a ++ m) ++ d) ≡ d

pub apart : (a m d : List ℕ) (n c : ℕ) → n ≡ length a → c ≡ length m → Apart a m d n c
apart a m d n c na cm =
    let grouped = append_assoc a m d in
    let tail : drop n ((a ++ m) ++ d) ≡ m ++ d = rw (na, grouped) (drop-append_seam a (m ++ d)) in
    record {
      first = rw (na, grouped) (take-append_seam a (m ++ d));
      second = ap (take c) tail ∙ rw cm (take-append_seam m d);
      third = sym (drop-drop c n ((a ++ m) ++ d)) ∙ ap (drop c) tail ∙ rw cm (drop-append_seam m d);
    }

-- the front of a text, as its two parts
pub front_of : (b : List ℕ) (n c : ℕ) (e : List ℕ) → n + c ≤ length b → Apart (take n b) (take c (drop n b)) e n c
front_of b n c e within =
    let one = length-take-le n b (omega arith) in
    let rest = length-drop n b in
    let two = length-take-le c (drop n b) (omega arith) in
    apart (take n b) (take c (drop n b)) e n c (sym one) (sym two)

-- the first lengths and the rest
pub total_cons : (l : Lengths) (ls : List Lengths) → total (l ∷ ls) ≡ both l + total ls
total_cons l ls = sum_by-cons both l ls

-- the bytes of names and contents are those of the lengths
pub size_of_files : (ls : List Lengths) (b : List ℕ) → total ls ≤ length b → size_of (files_of ls b) ≡ total ls
size_of_files [] b within = refl
size_of_files (l ∷ ls) b within =
    let sum = total_cons l ls in
    let one = length-take-le l.name b (omega arith) in
    let rest = length-drop l.name b in
    let two = length-take-le l.content (drop l.name b) (omega arith) in
    let further = length-drop (both l) b in
    let later = size_of_files ls (drop (both l) b) (omega arith) in
    let first = sum_by-cons (λ f. length f.0 + length f.1) (take l.name b, take l.content (drop l.name b))
    (files_of ls (drop (both l) b)) in
    omega arith

-- as many files as lengths
pub count_of_files : (ls : List Lengths) (b : List ℕ) → length (files_of ls b) ≡ length ls
count_of_files [] b = refl
count_of_files (l ∷ ls) b = ap suc (count_of_files ls (drop (both l) b))

-- the content at a later place
later_part : (l : Lengths) (b : List ℕ) (o : Option Place) → option_map (λ p. part_of b p.content) (option_map (shifted 1 (both l)) o)
    ≡ option_map (λ p. part_of (drop (both l) b) p.content) o
later_part l b None = refl
later_part l b (Some p) = ap (λ xs. Some (take p.content.length xs)) (sym (drop-drop p.content.start (both l) b))

-- the content at the place of a name is the file of that name
pub file_at_place : (ls : List Lengths) (b name : List ℕ) → option_map (λ p. part_of b p.content) (place_of ls b name)
    ≡ file_of (files_of ls b) name
file_at_place [] b name = refl
file_at_place (l ∷ ls) b name = by (later_part l b (place_of ls (drop (both l) b) name)
    ∙ file_at_place ls (drop (both l) b) name) (bytes_eq (take l.name b) name) refl where
      by : option_map (λ p. part_of b p.content) (option_map (shifted 1 (both l)) (place_of ls (drop (both l) b) name))
          ≡ file_of (files_of ls (drop (both l) b)) name → (t : Bool) → bytes_eq (take l.name b) name ≡ t →
          option_map (λ p. part_of b p.content) (place_of (l ∷ ls) b name) ≡ file_of (files_of (l ∷ ls) b) name
      by rest true e = rw e refl
      by rest false e = rw e rest

-- one content is written anew
pub resized_set : (ls : List Lengths) (i content : ℕ) (d : Lengths) → set ls i (record { name = (get_or ls i d).name; content = content })
    ≡ resized ls i content
resized_set [] i content d = refl
resized_set (l ∷ ls) zero content d = refl
resized_set (l ∷ ls) (suc i) content d = ap (λ xs. l ∷ xs) (resized_set ls i content d)

-- a change of a content at the place of its name
pub record Placed (ls : List Lengths) (b name new : List ℕ) (p : Place) : Type 0 where
  pub index : p.index < length ls
  pub within : p.content.start + p.content.length ≤ length b
  pub grown : total (resized ls p.index (length new)) + p.content.length ≡ total ls + length new
  pub files : files_of (resized ls p.index (length new)) (edited b p.content new) ≡ with_file (files_of ls b) name new

-- the first file is changed
placed_first : (l : Lengths) (ls : List Lengths) (b name new : List ℕ) → total (l ∷ ls) ≤ length b → bytes_eq (take l.name b) name ≡ true →
    Placed (l ∷ ls) b name new (record { index = 0; content = record { start = l.name; length = l.content } })
placed_first l ls b name new within same =
    let sum = total_cons l ls in
    let now : Lengths = record { name = l.name; content = length new } in
    let sum_now = total_cons now ls in
    let name_size = length-take-le l.name b (omega arith) in
    let cut = apart (take l.name b) new (drop (both l) b) l.name (length new) (sym name_size) refl in
    record {
      index = omega arith;
      within = omega arith;
      grown = omega arith;
      files = rw same (rw (cut.first, cut.second, cut.third) refl);
    }

-- a change behind the front of a buffer
edited_later : (b new : List ℕ) (k : ℕ) (p : Part) → edited b (record { start = k + p.start; length = p.length }) new ≡ take k b
    ++ edited (drop k b) p new
edited_later b new k p =
    let front = take-add k p.start b in
    let back : drop (k + p.start + p.length) b ≡ drop (p.start + p.length) (drop k b) =
    let grouped : k + p.start + p.length ≡ k + (p.start + p.length) = omega arith in
    ap (λ i. drop i b) grouped ∙ sym (drop-drop (p.start + p.length) k b)
    in
    let first = take k b in
    let second = take p.start (drop k b) in
    let rest = drop (p.start + p.length) (drop k b) in
    ap (λ xs. (xs ++ new) ++ drop (k + p.start + p.length) b) front ∙ ap (λ xs. ((first ++ second) ++ new) ++ xs) back
    ∙ ap (λ xs. xs ++ rest) (append_assoc first second new) ∙ append_assoc first (second ++ new) rest

-- a later file is changed
placed_later : (l : Lengths) (ls : List Lengths) (b name new : List ℕ) (p : Place) → total (l ∷ ls) ≤ length b →
    bytes_eq (take l.name b) name ≡ false → Placed ls (drop (both l) b) name new p → Placed (l ∷ ls) b name new (shifted 1 (both l) p)
placed_later l ls b name new p within other later =
    let sum = total_cons l ls in
    let one : 1 + p.index ≡ suc p.index = omega arith in
    let sum_now = total_cons l (resized ls p.index (length new)) in
    let rest = length-drop (both l) b in
    let tail = edited (drop (both l) b) p.content new in
    let cut = front_of b l.name l.content tail (omega arith) in
    let buffer_is : edited b (shifted 1 (both l) p).content new ≡ (take l.name b ++ take l.content (drop l.name b)) ++ tail =
    edited_later b new (both l) p.content ∙ ap (λ xs. xs ++ tail) (take-add l.name l.content b)
    in
    let first : List ℕ × List ℕ = (take l.name b, take l.content (drop l.name b)) in
    record {
      index = omega (arith, later.index);
      within = omega (arith, later.within);
      grown = rw one (omega (arith, later.grown));
      files =
          ap (λ i. files_of (resized (l ∷ ls) i (length new)) (edited b (shifted 1 (both l) p).content new)) one
          ∙ ap (files_of (l ∷ resized ls p.index (length new))) buffer_is
          ∙ rw (cut.first, cut.second, cut.third, other) (ap (λ fs. first ∷ fs) later.files);
    }

-- what an option holds that was mapped
mapped : {A B : Type 0} (f : A → B) (o : Option A) (y : B) → option_map f o ≡ Some y → (x : A) × (o ≡ Some x) × (f x ≡ y)
mapped f None y e = cc
mapped f (Some x) y e = (x, refl, cc)

-- a change of a content at the place of its name is what the table owes
pub placed : (ls : List Lengths) (b name new : List ℕ) (p : Place) → total ls ≤ length b → place_of ls b name ≡ Some p →
    Placed ls b name new p
placed [] b name new p within is = cc
placed (l ∷ ls) b name new p within is = by (λ q at. placed ls (drop (both l) b) name new q rest at) (bytes_eq (take l.name b) name) refl
  where
    rest : total ls ≤ length (drop (both l) b)
    rest = let sum = total_cons l ls in let size = length-drop (both l) b in omega arith

    by : ((q : Place) → place_of ls (drop (both l) b) name ≡ Some q → Placed ls (drop (both l) b) name new q) → (t : Bool) →
        bytes_eq (take l.name b) name ≡ t → Placed (l ∷ ls) b name new p
    by later true e =
        let here : Place = record { index = 0; content = record { start = l.name; length = l.content } } in
        let found : Some here ≡ Some p = sym (rw e refl) ∙ is in
        let same : here ≡ p = cc in
        let P : Place → Type 0 = λ q. Placed (l ∷ ls) b name new q in
        subst P same (placed_first l ls b name new within e)
    by later false e =
        let found : option_map (shifted 1 (both l)) (place_of ls (drop (both l) b) name) ≡ Some p = sym (rw e refl) ∙ is in
        let at = mapped (shifted 1 (both l)) (place_of ls (drop (both l) b) name) p found in
        let P : Place → Type 0 = λ q. Placed (l ∷ ls) b name new q in
        subst P at.2 (placed_later l ls b name new at.0 within e (later at.0 at.1))

-- as many lengths as before
length-resized : (ls : List Lengths) (i content : ℕ) → length (resized ls i content) ≡ length ls
length-resized [] i content = refl
length-resized (l ∷ ls) zero content = refl
length-resized (l ∷ ls) (suc i) content = ap suc (length-resized ls i content)

-- what a changed content makes of the lengths, the buffer and the table
pub record Changed (ls : List Lengths) (b name new : List ℕ) (p : Place) : Type 0 where
  pub index : p.index < length ls
  pub within : p.content.start + p.content.length ≤ length b
  pub listed : length (resized ls p.index (length new)) ≡ length ls
  pub filled : total (resized ls p.index (length new)) ≡ length (edited b p.content new)
  pub bytes : length (edited b p.content new) + p.content.length ≡ length b + length new
  pub files : files_of (resized ls p.index (length new)) (edited b p.content new) ≡ with_file (files_of ls b) name new
  pub size : size_of (with_file (files_of ls b) name new) ≡ length (edited b p.content new)
  pub count : length (with_file (files_of ls b) name new) ≡ length ls

pub changed : (ls : List Lengths) (b name new : List ℕ) (p : Place) → total ls ≡ length b → place_of ls b name ≡ Some p →
    Changed ls b name new p
changed ls b name new p filled is =
    let at = placed ls b name new p (omega arith) is in
    let ls' = resized ls p.index (length new) in
    let b' = edited b p.content new in
    let within = at.within in
    let grown = at.grown in
    let one = length-append (take p.content.start b ++ new) (drop (p.content.start + p.content.length) b) in
    let two = length-append (take p.content.start b) new in
    let three = length-take-le p.content.start b (omega arith) in
    let four = length-drop (p.content.start + p.content.length) b in
    let now : total ls' ≡ length b' = omega arith in
    let listed = length-resized ls p.index (length new) in
    record {
      index = at.index;
      within = at.within;
      listed = listed;
      filled = now;
      bytes = omega arith;
      files = at.files;
      size = ap size_of (sym at.files) ∙ size_of_files ls' b' (omega arith) ∙ now;
      count = ap length (sym at.files) ∙ count_of_files ls' b' ∙ listed;
    }

-- so where the place was looked up in the same lengths and buffer, by the same name
pub changed_at : {ls ls' : List Lengths} {b b' name name' : List ℕ} {p : Place} (new : List ℕ) → ls' ≡ ls → b' ≡ b → name' ≡ name
    → total ls ≡ length b → Some p ≡ place_of ls' b' name' → Changed ls b name new p
changed_at {ls} {ls'} {b} {b'} {name} {name'} {p} new same_lengths same_buffer same_name filled is =
    changed ls b name new p filled (sym (rw (same_lengths, same_buffer, same_name) at is))

-- a file of a name that the table has not stands last
files_added : (ls : List Lengths) (b name new : List ℕ) → total ls ≡ length b → place_of ls b name ≡ None →
    files_of (ls ++ record { name = length name; content = length new } ∷ []) ((b ++ name) ++ new) ≡ with_file (files_of ls b) name new
files_added [] [] name new filled none = rw (take-append_seam, drop-append_seam, take-length) refl
files_added [] (x ∷ b) name new filled none = absurd (omega arith)
files_added (l ∷ ls) b name new filled none = by (files_added ls (drop (both l) b) name new rest) (bytes_eq (take l.name b) name) refl where
  rest : total ls ≡ length (drop (both l) b)
  rest = let sum = total_cons l ls in let size = length-drop (both l) b in omega arith

  tail : List ℕ
  tail = (drop (both l) b ++ name) ++ new

  buffer_is : (b ++ name) ++ new ≡ (take l.name b ++ take l.content (drop l.name b)) ++ tail
  buffer_is =
      let front = take (both l) b in
      let back = drop (both l) b in
      ap (λ xs. (xs ++ name) ++ new) (sym (take-append-drop (both l) b)) ∙ ap (λ xs. xs ++ new) (append_assoc front back name)
      ∙ append_assoc front (back ++ name) new ∙ ap (λ xs. xs ++ tail) (take-add l.name l.content b)

  by : (place_of ls (drop (both l) b) name ≡ None → files_of (ls ++ record { name = length name; content = length new } ∷ []) tail
      ≡ with_file (files_of ls (drop (both l) b)) name new) → (t : Bool) → bytes_eq (take l.name b) name ≡ t →
      files_of ((l ∷ ls) ++ record { name = length name; content = length new } ∷ []) ((b ++ name) ++ new)
      ≡ with_file (files_of (l ∷ ls) b) name new
  by later true e =
      let here : Place = record { index = 0; content = record { start = l.name; length = l.content } } in
      let found : Some here ≡ None = sym (rw e refl) ∙ none in
      cc
  by later false e =
      let gone : option_map (shifted 1 (both l)) (place_of ls (drop (both l) b) name) ≡ None = sym (rw e refl) ∙ none in
      let sum = total_cons l ls in
      let cut = front_of b l.name l.content tail (omega arith) in
      let first : List ℕ × List ℕ = (take l.name b, take l.content (drop l.name b)) in
      ap (files_of (l ∷ (ls ++ record { name = length name; content = length new } ∷ []))) buffer_is
      ∙ rw (cut.first, cut.second, cut.third, e) (ap (λ fs. first ∷ fs)
      (later (unmapped (shifted 1 (both l)) (place_of ls (drop (both l) b) name) gone)))

-- what an added file makes of the lengths, the buffer and the table
pub record Added (ls : List Lengths) (b name new : List ℕ) : Type 0 where
  pub filled : total (ls ++ record { name = length name; content = length new } ∷ []) ≡ length ((b ++ name) ++ new)
  pub bytes : length ((b ++ name) ++ new) ≡ length b + (length name + length new)
  pub listed : length (ls ++ record { name = length name; content = length new } ∷ []) ≡ length ls + 1
  pub files : files_of (ls ++ record { name = length name; content = length new } ∷ []) ((b ++ name) ++ new)
      ≡ with_file (files_of ls b) name new
  pub size : size_of (with_file (files_of ls b) name new) ≡ length ((b ++ name) ++ new)
  pub count : length (with_file (files_of ls b) name new) ≡ length ls + 1

pub added : (ls : List Lengths) (b name new : List ℕ) → total ls ≡ length b → place_of ls b name ≡ None → Added ls b name new
added ls b name new filled none =
    let last : Lengths = record { name = length name; content = length new } in
    let ls' = ls ++ last ∷ [] in
    let b' = (b ++ name) ++ new in
    let files = files_added ls b name new filled none in
    let one = length-append (b ++ name) new in
    let two = length-append b name in
    let three = sum_by-append both ls (last ∷ []) in
    let four = total_cons last [] in
    let listed = length-append ls (last ∷ []) in
    let now : total ls' ≡ length b' = omega arith in
    let more : length ls' ≡ length ls + 1 = omega arith in
    record {
      filled = now;
      bytes = omega arith;
      listed = more;
      files = files;
      size = ap size_of (sym files) ∙ size_of_files ls' b' (omega arith) ∙ now;
      count = ap length (sym files) ∙ count_of_files ls' b' ∙ more;
    }

-- the table of what an edit made, where the edit was made
pub same_files : (t : Bool) (ls edited_ls : List Lengths) (b edited_b : List ℕ) (fs : Files) → OnTrue t (ls ≡ edited_ls) →
    OnTrue t (b ≡ edited_b) → files_of edited_ls edited_b ≡ fs → OnTrue t (files_of ls b ≡ fs)
same_files true ls edited_ls b edited_b fs is bytes made = rw (is, bytes) made
same_files false ls edited_ls b edited_b fs is bytes made = tt

-- lengths and a buffer that belong together and are within their room
pub record IsFilled (ls : List Lengths) (b : List ℕ) (most room : ℕ) : Type 0 where
  pub filled : total ls ≡ length b
  pub listed : length ls ≤ most
  pub within : length b ≤ room

-- what holds before an edit holds after it, where it holds of the edit's outcome
pub filled_after : (t : Bool) (ls edited_ls now_ls : List Lengths) (b edited_b now_b : List ℕ) (most room : ℕ) → IsFilled ls b most room →
    OnTrue t (now_ls ≡ edited_ls) → OnTrue t (now_b ≡ edited_b) → OnFalse t (now_ls ≡ ls) → OnFalse t (now_b ≡ b) →
    (IsTrue t → IsFilled edited_ls edited_b most room) → IsFilled now_ls now_b most room
filled_after true ls edited_ls now_ls b edited_b now_b most room before is bytes same same_bytes after = rw (is, bytes) (after refl)
filled_after false ls edited_ls now_ls b edited_b now_b most room before is bytes same same_bytes after = rw (same, same_bytes) before
