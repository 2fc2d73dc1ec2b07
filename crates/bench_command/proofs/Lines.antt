-- A text whose every line begins a logical line: each is one, without continuations.
use Rattle.std.specs.Prelude.{ℕ, ◌≡◌, ◌+◌, ◌==◌, ◌&&◌, not, Bool, true, false, List, [], ◌∷◌, ◌++◌, map, Ok}
use Rattle.std.specs.List.{flat_map, list_all, list_any}
use Rattle.std.proofs.Common.{refl, ap, ◌∙◌}
use Rattle.std.proofs.lemmas.Bool.{and_parts, and_right, not-true}
use Rattle.std.proofs.lemmas.List.{append-nil, append_assoc}
use Rattle.spice_text.specs.declared.logical.Line.{Line}
use Rattle.spice_text.specs.Physical.{physical, is_bad, is_blank, is_refused, without_comment}
use Rattle.spice_text.specs.Logical.{Group, group, grouped, line_of, split_of}
use Rattle.spice_text.specs.Words.{words_of}

-- a byte that a line may hold, and that neither ends one nor begins a comment in it
abbrev pub is_kept : ℕ → Bool
is_kept b = not (b == 10) && not (b == 13) && not (b == 36) && not (is_bad b)

-- a byte with which a logical line begins
abbrev pub begins_line : ℕ → Bool
begins_line b = not (is_blank b) && not (b == 42) && not (b == 43)

abbrev pub is_text_line : List ℕ → Bool
is_text_line [] = false
is_text_line (b ∷ bs) = begins_line b && list_all is_kept (b ∷ bs)

abbrev pub fed : List ℕ → List ℕ
fed line = line ++ 10 ∷ []

-- logical lines of these words, numbered from n on
abbrev pub placed : ℕ → List (List (List ℕ)) → List Line
placed n [] = []
placed n (words ∷ more) = record { number = n; info = false; words = words } ∷ placed (n + 1) more

kept_byte : (b : ℕ) → is_kept b ≡ true → ((b == 10) ≡ false) × ((b == 13) ≡ false) × ((b == 36) ≡ false) × (is_bad b ≡ false)
kept_byte b h =
    let last = and_parts (not (b == 10) && not (b == 13) && not (b == 36)) (not (is_bad b)) h in
    let third = and_parts (not (b == 10) && not (b == 13)) (not (b == 36)) last.0 in
    let both = and_parts (not (b == 10)) (not (b == 13)) third.0 in
    (not-true _ both.0, not-true _ both.1, not-true _ third.1, not-true _ last.1)

-- a line in front is a physical line
pub physical_line : (line rest : List ℕ) → list_all is_kept line ≡ true → physical (line ++ 10 ∷ rest) ≡ line ∷ physical rest
unfolding physical
physical_line [] rest h = refl
physical_line (b ∷ bs) rest h =
    let parts = and_parts (is_kept b) (list_all is_kept bs) h in
    let kept = kept_byte b parts.0 in
    rw (kept.0, kept.1, physical_line bs rest parts.1) refl

-- it has no comment
pub comment_kept : (blank : Bool) (line : List ℕ) → list_all is_kept line ≡ true → without_comment blank line ≡ line
comment_kept blank [] h = refl
comment_kept blank (b ∷ bs) h =
    let parts = and_parts (is_kept b) (list_all is_kept bs) h in
    let kept = kept_byte b parts.0 in
    rw (and_right blank (b == 36) kept.2, comment_kept (is_blank b) bs parts.1) refl

none_bad : (line : List ℕ) → list_all is_kept line ≡ true → list_any is_bad line ≡ false
none_bad [] h = refl
none_bad (b ∷ bs) h =
    let parts = and_parts (is_kept b) (list_all is_kept bs) h in
    let kept = kept_byte b parts.0 in
    rw (kept.3, none_bad bs parts.1) refl

not_refused : (line : List ℕ) → list_all is_kept line ≡ true → is_refused line ≡ false
not_refused line h = and_right _ (list_any is_bad line) (none_bad line h)

first_byte : (b : ℕ) → begins_line b ≡ true → (is_blank b ≡ false) × ((b == 42) ≡ false) × ((b == 43) ≡ false)
first_byte b h =
    let last = and_parts (not (is_blank b) && not (b == 42)) (not (b == 43)) h in
    let both = and_parts (not (is_blank b)) (not (b == 42)) last.0 in
    (not-true _ both.0, not-true _ both.1, not-true _ last.1)

grouped_line : (n b : ℕ) (bs : List ℕ) (ls : List Line) → begins_line b ≡ true → grouped n (b ∷ bs) (record { front = []; lines = ls }) ≡ record { front = []; lines = line_of n (b ∷ bs) ∷ ls }
grouped_line n b bs ls h =
    let first = first_byte b h in
    rw (first.0, first.1, first.2, append-nil bs) refl

group_line : (n : ℕ) (line : List ℕ) (lines : List (List ℕ)) (ls : List Line) → is_text_line line ≡ true → group (n + 1) lines ≡ Ok (record { front = []; lines = ls }) → group n (line ∷ lines) ≡ Ok (record { front = []; lines = line_of n line ∷ ls })
group_line n [] lines ls h behind = absurd cc
group_line n (b ∷ bs) lines ls h behind =
    let parts = and_parts (begins_line b) (list_all is_kept (b ∷ bs)) h in
    rw (comment_kept true (b ∷ bs) parts.1, not_refused (b ∷ bs) parts.1, behind) (ap (λ (g : Group). Ok g) (grouped_line n b bs ls parts.0))

text_line : (line : List ℕ) → is_text_line line ≡ true → list_all is_kept line ≡ true
text_line [] h = absurd cc
text_line (b ∷ bs) h = (and_parts (begins_line b) (list_all is_kept (b ∷ bs)) h).1

group_lines : (n : ℕ) (lines : List (List ℕ)) → list_all is_text_line lines ≡ true → group n (physical (flat_map fed lines)) ≡ Ok (record { front = []; lines = placed n (map words_of lines) })
unfolding physical
group_lines n [] h = refl
group_lines n (line ∷ lines) h =
    let parts = and_parts (is_text_line line) (list_all is_text_line lines) h in
    ap (λ (ls : List (List ℕ)). group n ls) (ap physical (append_assoc line (10 ∷ []) (flat_map fed lines)) ∙ physical_line line (flat_map fed lines) (text_line line parts.0))
    ∙ group_line n line (physical (flat_map fed lines)) (placed (n + 1) (map words_of lines)) parts.0 (group_lines (n + 1) lines parts.1)

pub lines_read : (lines : List (List ℕ)) → list_all is_text_line lines ≡ true → split_of (flat_map fed lines) ≡ Ok (placed 1 (map words_of lines))
lines_read lines h = rw (group_lines 1 lines h) refl
