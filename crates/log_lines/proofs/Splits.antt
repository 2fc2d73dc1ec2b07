-- Texts cut at a byte that their parts do not hold.
use Rattle.std.specs.Prelude.{ℕ, ◌≡◌, ◌<◌, ◌≤◌, ◌==◌, false, List, [], ◌∷◌, ◌++◌, All, length}
use Rattle.std.proofs.Common.{refl, sym, ap, subst, arith, ◌∙◌, inl, inr}
use Rattle.std.specs.List.{flat_map, join_with_byte, onto_first}
use Rattle.std.proofs.lemmas.Bool.{cases_Bool, eq-eqb, ne_eqb}
use Rattle.std.proofs.lemmas.List.{append_assoc}
use Rattle.std.proofs.lemmas.List.Elements.{All-append, All-cons, All-head, All-nil, All-tail}
use Rattle.std.proofs.lemmas.List.Splits.{join_with_byte-slice_split, slice_split-cons_no, slice_split-cons_yes, slice_split_at, slice_split_none}
use Rattle.log_lines.specs.Words.{parts_at}
use Rattle.log_lines.specs.Lines.{behind, last_of, lines_in, without_last}
use Rattle.log_lines.proofs.Feeds.{more_parts, same_last}
use Rattle.log_lines.proofs.Parts.{some_part}

-- the byte does not stand in the text
abbrev pub Lacks : ℕ → List ℕ → Type 0
Lacks c text = All (λ b. (b == c) ≡ false) text

-- all bytes are larger
abbrev pub IsAbove : ℕ → List ℕ → Type 0
IsAbove c text = All (λ b. c < b) text

pub above_lacks : (c d : ℕ) (text : List ℕ) → d ≤ c → IsAbove c text → Lacks d text
above_lacks c d [] l h = All-nil (λ b. (b == d) ≡ false)
above_lacks c d (b ∷ bs) l h =
    let more : c < b = All-head (λ b. c < b) b bs h in
    All-cons (λ b. (b == d) ≡ false) b bs (ne_eqb b d (λ e. omega (arith, e, more, l))) (above_lacks c d bs l (All-tail (λ b. c < b) b bs h))

pub above_more : (c d : ℕ) (text : List ℕ) → d ≤ c → IsAbove c text → IsAbove d text
above_more c d [] l h = All-nil (λ b. d < b)
above_more c d (b ∷ bs) l h =
    let more : c < b = All-head (λ b. c < b) b bs h in
    All-cons (λ b. d < b) b bs (omega (arith, more, l)) (above_more c d bs l (All-tail (λ b. c < b) b bs h))

-- parts without the byte are found again between its places
pub split_joined : (c : ℕ) (w : List ℕ) (ws : List (List ℕ)) → Lacks c w → All (Lacks c) ws → parts_at c (join_with_byte c (w ∷ ws)) ≡ w ∷ ws
split_joined c w [] lack lacks = slice_split_none (λ b. b == c) w lack
split_joined c w (v ∷ vs) lack lacks =
    slice_split_at (λ b. b == c) w c (join_with_byte c (v ∷ vs)) lack (eq-eqb c c refl)
    ∙ ap (λ (parts : List (List ℕ)). w ∷ parts) (split_joined c v vs (All-head (Lacks c) v vs lacks) (All-tail (Lacks c) v vs lacks))

pub joined_lacks : (c d : ℕ) (ws : List (List ℕ)) → (c == d) ≡ false → All (Lacks d) ws → Lacks d (join_with_byte c ws)
joined_lacks c d [] other lacks = All-nil (λ b. (b == d) ≡ false)
joined_lacks c d (w ∷ []) other lacks = All-head (Lacks d) w [] lacks
joined_lacks c d (w ∷ v ∷ vs) other lacks =
    All-append (λ b. (b == d) ≡ false) w (c ∷ join_with_byte c (v ∷ vs)) (All-head (Lacks d) w (v ∷ vs) lacks)
    (All-cons (λ b. (b == d) ≡ false) c (join_with_byte c (v ∷ vs)) other (joined_lacks c d (v ∷ vs) other (All-tail (Lacks d) w (v ∷ vs) lacks)))

-- a whole line in front
line_part : (line rest : List ℕ) → Lacks 10 line → parts_at 10 (line ++ (10 ∷ rest)) ≡ line ∷ parts_at 10 rest
line_part line rest lack = slice_split_at (λ b. b == 10) line 10 rest lack refl

pub line_first : (line rest : List ℕ) → Lacks 10 line → lines_in (line ++ (10 ∷ rest)) ≡ line ∷ lines_in rest
unfolding lines_in
line_first line rest lack = ap without_last (line_part line rest lack) ∙ more_parts line (parts_at 10 rest) (some_part 10 rest)

pub line_behind : (line rest : List ℕ) → Lacks 10 line → behind (line ++ (10 ∷ rest)) ≡ behind rest
unfolding behind
line_behind line rest lack = ap last_of (line_part line rest lack) ∙ same_last line (parts_at 10 rest) (some_part 10 rest)

-- the lines, each with its line feed, and the bytes behind them
abbrev pub fed : List ℕ → List ℕ
fed line = line ++ 10 ∷ []

unfoldable pub lines_text : List (List ℕ) → List ℕ → List ℕ
lines_text lines rest = flat_map fed lines ++ rest

joined_lines : (parts : List (List ℕ)) → 0 < length parts → join_with_byte 10 parts ≡ lines_text (without_last parts) (last_of parts)
unfolding lines_text
joined_lines [] some = absurd (omega (arith, some))
joined_lines (part ∷ []) some = refl
joined_lines (part ∷ next ∷ more) some =
    ap (λ (bs : List ℕ). part ++ (10 ∷ bs)) (joined_lines (next ∷ more) (omega arith))
    ∙ (sym (append_assoc part (10 ∷ []) (lines_text (without_last (next ∷ more)) (last_of (next ∷ more))))
    ∙ sym (append_assoc (fed part) (flat_map fed (without_last (next ∷ more))) (last_of (next ∷ more))))

-- they give the bytes back
pub bytes_again : (bytes : List ℕ) → bytes ≡ lines_text (lines_in bytes) (behind bytes)
unfolding lines_in behind
bytes_again bytes = sym (join_with_byte-slice_split 10 bytes) ∙ joined_lines (parts_at 10 bytes) (some_part 10 bytes)

-- no part holds the byte
onto_lacks : (c b : ℕ) (parts : List (List ℕ)) → (b == c) ≡ false → All (Lacks c) parts → All (Lacks c) (onto_first b parts)
onto_lacks c b [] other lacks = All-cons (Lacks c) (b ∷ []) [] (All-cons (λ d. (d == c) ≡ false) b [] other (All-nil (λ d. (d == c) ≡ false))) (All-nil (Lacks c))
onto_lacks c b (part ∷ parts) other lacks =
    All-cons (Lacks c) (b ∷ part) parts (All-cons (λ d. (d == c) ≡ false) b part other (All-head (Lacks c) part parts lacks)) (All-tail (Lacks c) part parts lacks)

parts_lack : (c : ℕ) (bytes : List ℕ) → All (Lacks c) (parts_at c bytes)
parts_lack c [] = All-cons (Lacks c) [] [] (All-nil (λ d. (d == c) ≡ false)) (All-nil (Lacks c))
parts_lack c (b ∷ bs) = elim (cases_Bool (b == c)) [
  | inl hit ↦ subst (All (Lacks c)) (sym (slice_split-cons_yes (λ d. d == c) b bs hit)) (All-cons (Lacks c) [] (parts_at c bs) (All-nil (λ d. (d == c) ≡ false)) (parts_lack c bs))
  | inr miss ↦ subst (All (Lacks c)) (sym (slice_split-cons_no (λ d. d == c) b bs miss)) (onto_lacks c b (parts_at c bs) miss (parts_lack c bs))
]

all_but_last : (parts : List (List ℕ)) → All (Lacks 10) parts → All (Lacks 10) (without_last parts)
all_but_last [] h = All-nil (Lacks 10)
all_but_last (part ∷ []) h = All-nil (Lacks 10)
all_but_last (part ∷ next ∷ more) h = All-cons (Lacks 10) part (without_last (next ∷ more)) (All-head (Lacks 10) part (next ∷ more) h) (all_but_last (next ∷ more) (All-tail (Lacks 10) part (next ∷ more) h))

last_lacks : (parts : List (List ℕ)) → All (Lacks 10) parts → Lacks 10 (last_of parts)
last_lacks [] h = All-nil (λ d. (d == 10) ≡ false)
last_lacks (part ∷ []) h = All-head (Lacks 10) part [] h
last_lacks (part ∷ next ∷ more) h = last_lacks (next ∷ more) (All-tail (Lacks 10) part (next ∷ more) h)

pub lines_lack : (bytes : List ℕ) → All (Lacks 10) (lines_in bytes)
unfolding lines_in
lines_lack bytes = all_but_last (parts_at 10 bytes) (parts_lack 10 bytes)

pub behind_lacks : (bytes : List ℕ) → Lacks 10 (behind bytes)
unfolding behind
behind_lacks bytes = last_lacks (parts_at 10 bytes) (parts_lack 10 bytes)
