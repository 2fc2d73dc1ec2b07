-- Items one after another.
use Rattle.std.specs.Prelude.{ℕ, ◌≡◌, ◌-◌, ◌<◌, ◌≤◌, List, [], ◌∷◌, ◌++◌, None, length, map, take, drop, get_or, flat_map}
use Rattle.std.proofs.Common.{refl, sym, ap, arith, ◌∙◌}
use Rattle.std.specs.List.{join_with_byte}
use Rattle.std.proofs.Math.Seq.{take-length}
use Rattle.std.proofs.lemmas.List.{append-nil, append_assoc}
use Rattle.log_lines.specs.Words.{parts_at}
use Rattle.trail_log.specs.Listed.{node_in, node_of}
use Rattle.trail_log.specs.Spelling.{list_text}

more_apart : {A : Type 0} (c : ℕ) (write : A → List ℕ) (item : A) (items : List A) → join_with_byte c (map write (item ∷ items)) ≡ write item ++ flat_map (λ i. c ∷ write i) items
more_apart c write item [] = sym (append-nil (write item))
more_apart c write item (next ∷ items) = ap (λ (bs : List ℕ). write item ++ (c ∷ bs)) (more_apart c write next items)

-- the first item, and the others after their bytes
pub items_apart : {A : Type 0} (c : ℕ) (write : A → List ℕ) (out : List ℕ) (items : List A) (d : A) → 1 ≤ length items → (out ++ write (get_or items 0 d)) ++ flat_map (λ i. c ∷ write i) (take (length items - 1) (drop 1 items)) ≡ out ++ join_with_byte c (map write items)
items_apart c write out [] d some = absurd (omega (arith, some))
items_apart c write out (item ∷ items) d some =
    let rest : length (item ∷ items) - 1 ≡ length items = omega arith in
    rw (rest, take-length items)
    (append_assoc out (write item) (flat_map (λ i. c ∷ write i) items) ∙ ap (λ (bs : List ℕ). out ++ bs) (sym (more_apart c write item items)))

-- none
pub no_items : {A : Type 0} (c : ℕ) (write : A → List ℕ) (out : List ℕ) (items : List A) → length items < 1 → out ≡ out ++ join_with_byte c (map write items)
no_items c write out [] none = sym (append-nil out)
no_items c write out (item ∷ items) none = absurd (omega (arith, none))

-- with commas
pub listed_apart : {A : Type 0} (write : A → List ℕ) (out text : List ℕ) (items : List A) → 0 < length items → text ≡ out ++ join_with_byte 44 (map write items) → text ≡ out ++ list_text 44 (map write items)
listed_apart write out text [] some h = absurd (omega (arith, some))
listed_apart write out text (item ∷ items) some h = h

-- a node has two nets
pub long_node : (nets : ℕ) (word : List ℕ) → 2 < length (parts_at 46 word) → node_in nets word ≡ None
long_node nets word more = long (parts_at 46 word) more
  where
    long : (words : List (List ℕ)) → 2 < length words → node_of nets words ≡ None
    long [] more = refl
    long (a ∷ []) more = refl
    long (a ∷ b ∷ []) more = absurd (omega (arith, more))
    long (a ∷ b ∷ c ∷ rest) more = refl
