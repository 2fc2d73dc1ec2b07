-- Texts in the form in which they are written.
use Rattle.std.specs.Prelude.{ℕ, zero, suc, Result, Ok, Err, OnErr, ◌≡◌, ◌+◌, ◌-◌, ◌<◌, ◌≤◌, List, [], ◌∷◌, ◌++◌, length, get_or, take, drop, map, decimal}
use Rattle.std.proofs.Common.{sym, ap, arith, ◌∙◌}
use Rattle.std.specs.List.{join_with_byte}
use Rattle.std.proofs.Math.Seq.{take-length}
use Rattle.std.proofs.lemmas.List.{append-nil, append_assoc, length-append}
use Rattle.bound_log.specs.Text.{counts_text, more_counts_text}

pub joined_apart : (c : ℕ) (cs : List ℕ) → join_with_byte 44 (map decimal (c ∷ cs)) ≡ decimal c ++ more_counts_text cs
joined_apart c [] = sym (append-nil (decimal c))
joined_apart c (d ∷ ds) = ap (λ (bs : List ℕ). decimal c ++ (44 ∷ bs)) (joined_apart d ds)

-- the first count, and the others behind their commas
pub counts_apart : (out counts : List ℕ) → 1 ≤ length counts → (out ++ decimal (get_or counts 0 0)) ++ more_counts_text (take (length counts - 1) (drop 1 counts)) ≡ out ++ counts_text counts
counts_apart out [] some = absurd (omega (arith, some))
counts_apart out (c ∷ cs) some =
    let rest : length (c ∷ cs) - 1 ≡ length cs = omega arith in
    rw (rest, take-length cs) (append_assoc out (decimal c) (more_counts_text cs) ∙ ap (λ (bs : List ℕ). out ++ bs) (sym (joined_apart c cs)))

-- ---- how much room they take

more_at : (counts : List ℕ) (i d : ℕ) → i < length counts → length (more_counts_text (take i counts)) + (1 + length (decimal (get_or counts i d))) ≤ length (more_counts_text counts)
more_at [] i d within = absurd (omega (arith, within))
more_at (c ∷ cs) zero d within = omega (arith, length-append (44 ∷ decimal c) (more_counts_text cs))
more_at (c ∷ cs) (suc i) d within =
    omega (arith, more_at cs i d (omega (arith, within)), length-append (44 ∷ decimal c) (more_counts_text (take i cs)), length-append (44 ∷ decimal c) (more_counts_text cs))

-- no room for the next count
pub next_full : (counts : List ℕ) (i d old now : ℕ) → i < length counts → old ≤ now + length (more_counts_text (take i counts)) → now < 1 + length (decimal (get_or counts i d)) → old < length (more_counts_text counts)
next_full counts i d old now within left full = omega (arith, more_at counts i d within, left, full)

counts_length : (counts : List ℕ) (d : ℕ) → 1 ≤ length counts → length (counts_text counts) ≡ length (decimal (get_or counts 0 d)) + length (more_counts_text (take (length counts - 1) (drop 1 counts)))
counts_length [] d some = absurd (omega (arith, some))
counts_length (c ∷ cs) d some =
    omega (arith, ap length (counts_apart [] (c ∷ cs) some), length-append (decimal c) (more_counts_text (take (length (c ∷ cs) - 1) (drop 1 (c ∷ cs)))))

pub counts_full : (counts : List ℕ) (d old mid : ℕ) → 1 ≤ length counts → old ≤ mid + length (decimal (get_or counts 0 d)) → mid < length (more_counts_text (take (length counts - 1) (drop 1 counts))) → old < length (counts_text counts)
counts_full counts d old mid some left full = omega (arith, counts_length counts d some, left, full)

pub counts_left : (counts : List ℕ) (d old mid new : ℕ) → 1 ≤ length counts → old ≤ mid + length (decimal (get_or counts 0 d)) → mid ≤ new + length (more_counts_text (take (length counts - 1) (drop 1 counts))) → old ≤ new + length (counts_text counts)
counts_left counts d old mid new some left more = omega (arith, counts_length counts d some, left, more)

pub on_err : {A E : Type 0} (r : Result A E) (P : Type 0) → P → OnErr r P
on_err (Ok a) P h = tt
on_err (Err e) P h = h

-- between a front and an end, the words of a state stand one by one
pub state_apart : (front gap end p n e f : List ℕ) → front ++ (p ++ gap ++ n ++ gap ++ e ++ gap ++ f) ++ end ≡ front ++ p ++ gap ++ n ++ gap ++ e ++ gap ++ f ++ end
state_apart front gap end p n e f = simp append_assoc
