-- Lists of items, written and read.
use Rattle.std.specs.Prelude.{ℕ, ◌≡◌, ◌<◌, ◌≤◌, ◌==◌, false, List, [], ◌∷◌, Option, Some, All, length, map, codes, decimal}
use Rattle.std.proofs.Common.{refl, sym, ap, subst, arith, ◌∙◌, inl, inr}
use Rattle.std.specs.List.{join_with_byte}
use Rattle.std.proofs.lemmas.List.Elements.{All-append, All-cons, All-head, All-nil, All-tail}
use Rattle.std.proofs.lemmas.List.Splits.{join_with_byte-slice_split}
use Rattle.std.proofs.lemmas.Option.{same_Some}
use Rattle.cell_num.specs.declared.net.NetNo.{NetNo}
use Rattle.log_lines.specs.Words.{is_word, number_below, parts_at}
use Rattle.log_lines.proofs.Decimals.{above_decimal}
use Rattle.log_lines.proofs.Numbers.{chosen, found_below, is_below, is_other, same_words}
use Rattle.log_lines.proofs.Parts.{some_part}
use Rattle.log_lines.proofs.Splits.{IsAbove, Lacks, above_lacks, above_more, joined_lacks, split_joined}
use Rattle.bound_log.proofs.Spelled.{bound, cons_same, mapped}
use Rattle.trail_log.specs.Listed.{each_in, list_in, net_in}
use Rattle.trail_log.specs.Spelling.{list_text, net_text}
use Rattle.trail_log.specs.Fits.{NetFits}

-- a word that is read is how the item is written, and the item is good
abbrev pub ReadsOnly : {A : Type 0} → (List ℕ → Option A) → (A → List ℕ) → (A → Type 0) → Type 0
ReadsOnly {A = A} read write Good = (word : List ℕ) (item : A) → read word ≡ Some item → (word ≡ write item) × Good item

abbrev pub ReadsAgain : {A : Type 0} → (List ℕ → Option A) → (A → List ℕ) → (A → Type 0) → Type 0
ReadsAgain {A = A} read write Good = (item : A) → Good item → read (write item) ≡ Some item

-- the byte does not stand in what is written
abbrev pub Spares : {A : Type 0} → ℕ → (A → List ℕ) → Type 0
Spares {A = A} c write = (item : A) → Lacks c (write item)

pub each_only : {A : Type 0} (read : List ℕ → Option A) (write : A → List ℕ) (Good : A → Type 0) (words : List (List ℕ)) (items : List A) → ReadsOnly read write Good → each_in read words ≡ Some items → (words ≡ map write items) × All Good items
each_only read write Good [] items only h = subst (λ xs. ([] ≡ map write xs) × All Good xs) (same_Some [] items h) (refl, All-nil Good)
each_only read write Good (word ∷ words) items only h =
    let first = bound (read word) _ items h in
    let later = bound (each_in read words) _ items first.2 in
    let one = only word first.0 first.1 in
    let others = each_only read write Good words later.0 only later.1 in
    subst (λ xs. ((word ∷ words) ≡ map write xs) × All Good xs) (same_Some (first.0 ∷ later.0) items later.2)
    (cons_same _ _ _ _ one.0 others.0, All-cons Good first.0 later.0 one.1 others.1)

pub each_again : {A : Type 0} (read : List ℕ → Option A) (write : A → List ℕ) (Good : A → Type 0) (items : List A) → ReadsAgain read write Good → All Good items → each_in read (map write items) ≡ Some items
each_again read write Good [] again h = refl
each_again read write Good (item ∷ items) again h =
    rw (again item (All-head Good item items h), each_again read write Good items again (All-tail Good item items h)) refl

-- ---- with a byte between, or `-`

pub all_of : {A : Type 0} (write : A → List ℕ) (P : List ℕ → Type 0) (items : List A) → ((item : A) → P (write item)) → All P (map write items)
all_of write P [] each = All-nil P
all_of write P (item ∷ items) each = All-cons P (write item) (map write items) (each item) (all_of write P items each)

listed_parts : (c : ℕ) (words : List (List ℕ)) → 0 < length words → join_with_byte c words ≡ list_text c words
listed_parts c [] some = absurd (omega (arith, some))
listed_parts c (word ∷ words) some = refl

pub joined_parts : (c : ℕ) (text : List ℕ) (words : List (List ℕ)) → parts_at c text ≡ words → text ≡ join_with_byte c words
joined_parts c text words is = sym (join_with_byte-slice_split c text) ∙ ap (join_with_byte c) is

pub list_only : {A : Type 0} (c : ℕ) (read : List ℕ → Option A) (write : A → List ℕ) (Good : A → Type 0) (word : List ℕ) (items : List A) → ReadsOnly read write Good → list_in c read word ≡ Some items → (word ≡ list_text c (map write items)) × All Good items
list_only {A = A} c read write Good word items only h =
    elim (chosen (is_word word (codes "-")) _ _ _ h) [
      | inl none ↦ subst (λ (xs : List A). (word ≡ list_text c (map write xs)) × All Good xs) (same_Some [] items none.1) (same_words word (codes "-") none.0, All-nil Good)
      | inr some ↦
          let read_all = each_only read write Good (parts_at c word) items only some.1 in
          let more : 0 < length (map write items) = subst (λ (ws : List (List ℕ)). 0 < length ws) read_all.0 (some_part c word) in
          (joined_parts c word (map write items) read_all.0 ∙ listed_parts c (map write items) more, read_all.1)
    ]

pub no_dash : (text : List ℕ) → Lacks 45 text → is_word text (codes "-") ≡ false
no_dash text lack = is_other text (codes "-") (λ e. dash (subst (Lacks 45) e lack))
  where
    dash : Lacks 45 (45 ∷ []) → ⊥
    dash h = let f : (45 == 45) ≡ false = All-head (λ b. (b == 45) ≡ false) 45 [] h in absurd cc

pub list_again : {A : Type 0} (c : ℕ) (read : List ℕ → Option A) (write : A → List ℕ) (Good : A → Type 0) (items : List A) → (c == 45) ≡ false → ReadsAgain read write Good → Spares c write → Spares 45 write → All Good items → list_in c read (list_text c (map write items)) ≡ Some items
list_again c read write Good [] other again apart bare h = refl
list_again c read write Good (item ∷ items) other again apart bare h =
    let words = map write (item ∷ items) in
    let no : is_word (join_with_byte c words) (codes "-") ≡ false = no_dash (join_with_byte c words) (joined_lacks c 45 words other (all_of write (Lacks 45) (item ∷ items) bare)) in
    rw no
    (ap (each_in read) (split_joined c (write item) (map write items) (apart item) (all_of write (Lacks c) items apart))
    ∙ each_again read write Good (item ∷ items) again h)

-- ---- bytes above one

pub joined_above : (c d : ℕ) (words : List (List ℕ)) → d < c → All (IsAbove d) words → IsAbove d (join_with_byte c words)
joined_above c d [] l h = All-nil (λ b. d < b)
joined_above c d (word ∷ []) l h = All-head (IsAbove d) word [] h
joined_above c d (word ∷ next ∷ words) l h =
    All-append (λ b. d < b) word (c ∷ join_with_byte c (next ∷ words)) (All-head (IsAbove d) word (next ∷ words) h)
    (All-cons (λ b. d < b) c (join_with_byte c (next ∷ words)) l (joined_above c d (next ∷ words) l (All-tail (IsAbove d) word (next ∷ words) h)))

pub list_above : {A : Type 0} (write : A → List ℕ) (items : List A) → ((item : A) → IsAbove 32 (write item)) → IsAbove 32 (list_text 44 (map write items))
list_above write [] each = All-cons (λ b. 32 < b) 45 [] (omega arith) (All-nil (λ b. 32 < b))
list_above write (item ∷ items) each = joined_above 44 32 (map write (item ∷ items)) (omega arith) (all_of write (IsAbove 32) (item ∷ items) each)

-- ---- nets

pub decimal_lacks : (c n : ℕ) → c ≤ 47 → Lacks c (decimal n)
decimal_lacks c n few = above_lacks 47 c (decimal n) few (above_decimal n)

pub net_only : (nets : ℕ) → ReadsOnly (net_in nets) net_text (NetFits nets)
net_only nets word net h =
    let found = mapped _ (number_below nets word) net h in
    let below : (word ≡ decimal found.0) × (found.0 < nets) = found_below nets word found.0 found.1 in
    subst (λ (x : NetNo). (word ≡ decimal x.0) × (x.0 < nets)) found.2 below

pub net_again : (nets : ℕ) → nets ≤ 256 → ReadsAgain (net_in nets) net_text (NetFits nets)
net_again nets few net fits = rw (is_below nets (decimal net.0) net.0 refl fits (omega (arith, few))) refl

pub net_above : (net : NetNo) → IsAbove 32 (net_text net)
net_above net = above_more 47 32 (decimal net.0) (omega arith) (above_decimal net.0)

pub nets_only : (nets : ℕ) (word : List ℕ) (gates : List NetNo) → list_in 44 (net_in nets) word ≡ Some gates → (word ≡ list_text 44 (map net_text gates)) × All (NetFits nets) gates
nets_only nets word gates h = list_only 44 (net_in nets) net_text (NetFits nets) word gates (net_only nets) h

pub nets_again : (nets : ℕ) (gates : List NetNo) → nets ≤ 256 → All (NetFits nets) gates → list_in 44 (net_in nets) (list_text 44 (map net_text gates)) ≡ Some gates
nets_again nets gates few h =
    list_again 44 (net_in nets) net_text (NetFits nets) gates refl (net_again nets few) (λ net. decimal_lacks 44 net.0 (omega arith)) (λ net. decimal_lacks 45 net.0 (omega arith)) h
