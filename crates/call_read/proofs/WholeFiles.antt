-- A file that a sink took whole was read so.
use Rattle.std.proofs.Common.{ℕ, ◌≡◌, ◌≤◌, ◌↔◌, List, length, Option, Some, None, Ok, IfSome, IsNone, true, inl, refl, subst}
use Rattle.std.specs.Prelude.{MatchOption, nat_le}
use Rattle.std.proofs.lemmas.Bool.{le-leb}
use Rattle.cell_io.specs.Desk.{Files, IsMissing, ReadingFailed, View, told}
use Rattle.cell_io.specs.Whole.{TookFile}
use Rattle.call_read.specs.Read.{IsRead}
use Rattle.call_read.specs.Sources.{MayRead, Source, file_name, most_bytes, within}

by_file : (name : List ℕ) (most : ℕ) (bytes : List ℕ) (P : Type 0) (file : Option (List ℕ)) → length bytes ≤ most → IfSome file (λ all. bytes ≡ all) → P ↔ IsNone file → (P → ⊥) → Ok bytes ≡ within name most file
by_file name most bytes P None few same missing there = absurd (there (missing.1 refl))
by_file name most bytes P (Some all) few same missing there =
    let fits : nat_le (length all) most ≡ true = subst (λ (l : List ℕ). nat_le (length l) most ≡ true) same (le-leb (length bytes) most few) in
    rw (fits, same) refl

by_given : (given : Option Files) (failed P : Type 0) (source : Source) (bytes : List ℕ) → length bytes ≤ most_bytes source → IfSome (told given (file_name source)) (λ all. bytes ≡ all) → MatchOption given (P → failed) (λ files. P ↔ IsNone (files (file_name source))) → (P → ⊥) → MayRead given failed source (Ok bytes)
by_given None failed P source bytes few same missing there = few
by_given (Some files) failed P source bytes few same missing there = inl (by_file (file_name source) (most_bytes source) bytes P (files (file_name source)) few same missing there)

read_whole : (old new : View) (source : Source) (bytes : List ℕ) (P : Type 0) → length bytes ≤ most_bytes source → IfSome (told old.given (file_name source)) (λ all. bytes ≡ all) → IsMissing P (file_name source) old new → (P → ⊥) → IsRead old new source (Ok bytes)
read_whole old new source bytes P few same missing there = inl (by_given old.given (ReadingFailed old new) P source bytes few same missing there)

-- what a sink took of the source is all its bytes
pub took_whole : (old new : View) (source : Source) (took : List ℕ → Type 0) (P : Type 0) → TookFile took (most_bytes source) (told old.given (file_name source)) → IsMissing P (file_name source) old new → (P → ⊥) → (bytes : List ℕ) × took bytes × (length bytes ≤ most_bytes source) × IsRead old new source (Ok bytes)
took_whole old new source took P (bytes, taken, few, same) missing there = (bytes, taken, few, read_whole old new source bytes P few same missing there)

-- the same, where its name and its limit were asked for
pub took_named : (old new : View) (source : Source) (took : List ℕ → Type 0) (P : Type 0) (name : List ℕ) (most : ℕ) → name ≡ file_name source → most ≡ most_bytes source → TookFile took most (told old.given name) → IsMissing P name old new → (P → ⊥) → (bytes : List ℕ) × took bytes × (length bytes ≤ most_bytes source) × IsRead old new source (Ok bytes)
took_named old new source took P name most is limit file missing there =
    took_whole old new source took P
    (subst (λ (m : ℕ). TookFile took m (told old.given (file_name source))) limit (subst (λ (n : List ℕ). TookFile took most (told old.given n)) is file))
    (subst (λ (n : List ℕ). IsMissing P n old new) is missing)
    there
