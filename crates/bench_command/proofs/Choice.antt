-- The lines of a subcircuit among those of others.
use Rattle.std.specs.Prelude.{ℕ, suc, ◌≡◌, ◌+◌, ◌<◌, ◌&&◌, not, Bool, true, false, List, [], ◌∷◌, ◌++◌, length, take, codes, position, Some, Ok}
use Rattle.std.specs.List.{list_all, position_or_len}
use Rattle.std.proofs.Common.{refl, ap, arith, ◌∙◌}
use Rattle.std.proofs.lemmas.Bool.{and_parts, lt-ltb, not-true}
use Rattle.spice_text.specs.declared.logical.Line.{Line}
use Rattle.spice_net.specs.Chosen.{begins, chosen_at, chosen_in, ends, first_is, from_first, second_is, without_comments}
use Rattle.bench_command.proofs.Lines.{placed}

-- the words of a line that begins the subcircuit of this name
abbrev pub begin_words : List ℕ → List (List ℕ) → Bool
begin_words name words = first_is (codes ".subckt") words && second_is name words

-- the words of a line at which a subcircuit ends
abbrev pub end_words : List (List ℕ) → Bool
end_words words = first_is (codes ".ends") words

passed_by : (name : List ℕ) (n : ℕ) (before lines : List (List (List ℕ))) → list_all (λ words. not (begin_words name words)) before ≡ true → (m : ℕ) × (from_first (begins name) (placed n (before ++ lines)) ≡ from_first (begins name) (placed m lines))
passed_by name n [] lines h = (n, refl)
passed_by name n (words ∷ before) lines h =
    let parts = and_parts (not (begin_words name words)) (list_all (λ words. not (begin_words name words)) before) h in
    one_more (not-true _ parts.0) (passed_by name (n + 1) before lines parts.1)
  where
    one_more : begin_words name words ≡ false → (m : ℕ) × (from_first (begins name) (placed (n + 1) (before ++ lines)) ≡ from_first (begins name) (placed m lines)) → (m : ℕ) × (from_first (begins name) (placed n (words ∷ (before ++ lines))) ≡ from_first (begins name) (placed m lines))
    one_more other (m, e) = (m, rw other e)

length_placed : (n : ℕ) (lines : List (List (List ℕ))) → length (placed n lines) ≡ length lines
length_placed n [] = refl
length_placed n (words ∷ lines) = ap suc (length_placed (n + 1) lines)

end_place : (n : ℕ) (inside : List (List (List ℕ))) (end : List (List ℕ)) (after : List (List (List ℕ))) → list_all (λ words. not (end_words words)) inside ≡ true → end_words end ≡ true → position_or_len ends (placed n (inside ++ end ∷ after)) ≡ length inside
end_place n [] end after h is = rw is refl
end_place n (words ∷ inside) end after h is =
    let parts = and_parts (not (end_words words)) (list_all (λ words. not (end_words words)) inside) h in
    let later = end_place (n + 1) inside end after parts.1 is in
    rw (not-true _ parts.0, later) (omega arith)

end_is : (n : ℕ) (inside : List (List (List ℕ))) (end : List (List ℕ)) (after : List (List (List ℕ))) → list_all (λ words. not (end_words words)) inside ≡ true → end_words end ≡ true → position ends (placed n (inside ++ end ∷ after)) ≡ Some (length inside)
end_is n inside end after h is =
    let before : length inside < length (placed n (inside ++ end ∷ after)) = omega (arith, length_placed n (inside ++ end ∷ after), shorter inside) in
    rw (end_place n inside end after h is, lt-ltb (length inside) (length (placed n (inside ++ end ∷ after))) before) refl
  where
    shorter : (lines : List (List (List ℕ))) → length lines < length (lines ++ end ∷ after)
    shorter [] = omega arith
    shorter (words ∷ lines) = omega (arith, shorter lines)

taken : (n : ℕ) (inside behind : List (List (List ℕ))) → take (length inside) (placed n (inside ++ behind)) ≡ placed n inside
taken n [] behind = refl
taken n (words ∷ inside) behind = ap (λ (ls : List Line). record { number = n; info = false; words = words } ∷ ls) (taken (n + 1) inside behind)

-- The subcircuit of a name begins with the first line that begins one of that name, and goes on up to the next end.
pub chosen_lines : (name : List ℕ) (n : ℕ) (before : List (List (List ℕ))) (head : List (List ℕ)) (inside : List (List (List ℕ))) (end : List (List ℕ)) (after : List (List (List ℕ))) → list_all (λ words. not (begin_words name words)) before ≡ true → begin_words name head ≡ true → list_all (λ words. not (end_words words)) inside ≡ true → end_words end ≡ true → (m : ℕ) × (chosen_in name (placed n (before ++ (head ∷ (inside ++ end ∷ after)))) ≡ Ok (record { head = record { number = m; info = false; words = head }; inside = placed (m + 1) inside }))
chosen_lines name n before head inside end after others first inner last =
    let found = passed_by name n before (head ∷ (inside ++ end ∷ after)) others in
    (found.0, ap chosen_at found.1 ∙ rw (first, end_is (found.0 + 1) inside end after inner last, taken (found.0 + 1) inside (end ∷ after)) refl)

-- no line is a comment
pub no_comments : (n : ℕ) (lines : List (List (List ℕ))) → without_comments (placed n lines) ≡ placed n lines
no_comments n [] = refl
no_comments n (words ∷ lines) = ap (λ (ls : List Line). record { number = n; info = false; words = words } ∷ ls) (no_comments (n + 1) lines)
