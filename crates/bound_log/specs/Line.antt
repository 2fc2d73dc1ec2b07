-- What one line of a log holds, by its words.
use Rattle.std.specs.Prelude.{ℕ, Bool, true, false, ◌≤◌, ◌+◌, ◌||◌, ◌==◌, leb, All, List, [], ◌∷◌, Option, Some, None}
use Rattle.std.specs.Prelude.{length, find, codes, option_map, if◌then◌else◌}
use Rattle.std.specs.Option.{is_some}
use Rattle.cell_num.specs.declared.net.NetNo.{NetNo}
use Rattle.row_state.specs.declared.bound.TheConstants.{PARITY_LOG, COMPONENT_LOG}
use Rattle.row_state.specs.declared.kind.Kind.{Kind}
use Rattle.row_state.specs.declared.kind.Kinds.{Kinds}
use Rattle.row_state.specs.declared.state.State.{State}
use Rattle.row_state.specs.declared.step.Side.{Side}
use Rattle.row_state.specs.Tests.{state_test}
use Rattle.log_lines.specs.Words.{is_word, number_below, parts_at}
use Rattle.bound_log.specs.declared.log.Rule.{Rule}
use Rattle.bound_log.specs.declared.log.Rule.TheVariants as by
use Rattle.bound_log.specs.declared.log.Lemma.{Lemma}
use Rattle.bound_log.specs.declared.log.LogStep.{LogStep}
use Rattle.bound_log.specs.declared.log.Ending.{Ending}
use Rattle.bound_log.specs.declared.log.Ending.TheVariants as ending
use Rattle.bound_log.specs.declared.log.Entry.{Entry}
use Rattle.bound_log.specs.declared.log.Entry.TheVariants as entry
use Rattle.bound_log.specs.Text.{version_line}

-- steps that may each find nothing
infixl 10 ◌>>=◌
abbrev pub ◌>>=◌ : {A B : Type 0} → Option A → (A → Option B) → Option B
(Some a) >>= f = f a
None >>= f = None

-- nothing, unless a condition holds
abbrev pub provided : Bool → Option (Unit {0})
provided true = Some tt
provided false = None

-- the version of which this is the first line of a log
unfoldable pub version_in : List ℕ → Option ℕ
version_in line = find (λ version. is_word line (version_line version)) (PARITY_LOG ∷ COMPONENT_LOG ∷ [])

abbrev pub rule_in : List ℕ → Option Rule
rule_in word =
    if is_word word (codes "P") then Some by.P else
    if is_word word (codes "N") then Some by.N else
    if is_word word (codes "B") then Some by.Branch else
    None

-- no kind has more fingers than a row of a cell
abbrev pub FewOfEach : List Kind → Type 0
FewOfEach kinds = All (λ (kind : Kind). kind.count ≤ 64) kinds

-- one count for each kind, none above how many fingers are of the kind
abbrev pub counts_each : List Kind → List (List ℕ) → Option (List ℕ)
counts_each [] [] = Some []
counts_each [] (word ∷ words) = None
counts_each (kind ∷ kinds) [] = None
counts_each (kind ∷ kinds) (word ∷ words) = do
  count ← number_below (kind.count + 1) word
  counts ← counts_each kinds words
  Some (count ∷ counts)

-- a row without kinds has `-`
abbrev pub counts_in : List Kind → List ℕ → Option (List ℕ)
counts_in [] word = if is_word word (codes "-") then Some [] else None
counts_in (kind ∷ kinds) word = counts_each (kind ∷ kinds) (parts_at 44 word)

-- an open end, or `-` for none
abbrev pub end_in : ℕ → List ℕ → Option (Option NetNo)
end_in nets word =
    if is_word word (codes "-") then Some None else
    option_map (λ n. Some (record { 0 = n })) (number_below nets word)

-- a valid state
abbrev pub state_in : Kinds → List ℕ → List ℕ → List ℕ → List ℕ → Option State
state_in k p_left n_left p_end n_end = do
  p_counts ← counts_in k.p p_left
  n_counts ← counts_in k.n n_left
  p_net ← end_in k.nets p_end
  n_net ← end_in k.nets n_end
  _ ← provided (state_test k (record { p_left = p_counts; n_left = n_counts; p_end = p_net; n_end = n_net }))
  Some (record { p_left = p_counts; n_left = n_counts; p_end = p_net; n_end = n_net })

-- behind the word `lemma`
abbrev pub lemma_in : Kinds → List (List ℕ) → Option Lemma
lemma_in k (bound ∷ rule ∷ p_left ∷ n_left ∷ p_end ∷ n_end ∷ []) = do
  number ← number_below 64 bound
  _ ← provided (leb 1 number)
  reason ← rule_in rule
  state ← state_in k p_left n_left p_end n_end
  Some (record { state = state; bound = number; rule = reason })
lemma_in k _ = None

-- behind the word `gaps`
abbrev pub gaps_in : List (List ℕ) → Option ℕ
gaps_in (gaps ∷ []) = number_below 64 gaps
gaps_in _ = None

abbrev pub flip_in : List ℕ → Option Bool
flip_in word =
    if is_word word (codes "0") then Some false else
    if is_word word (codes "1") then Some true else
    None

-- what stands in a place: one of the kinds and its flip, or `-` and the flip 0 for nothing
abbrev pub place_in : List Kind → List ℕ → Bool → Option (Option Side)
place_in kinds word flipped =
    if is_word word (codes "-") then (if flipped then None else Some None) else
    option_map (λ n. Some (record { kind = n; flipped = flipped })) (number_below (length kinds) word)

abbrev pub side_in : List Kind → List ℕ → List ℕ → Option (Option Side)
side_in kinds word flip = flip_in flip >>= place_in kinds word

-- behind the word `column`: a gate, and a place of each row, one of them filled
abbrev pub step_in : Kinds → List (List ℕ) → Option LogStep
step_in k (gate ∷ p_kind ∷ p_flip ∷ n_kind ∷ n_flip ∷ []) = do
  net ← number_below k.nets gate
  p ← side_in k.p p_kind p_flip
  n ← side_in k.n n_kind n_flip
  _ ← provided (is_some p || is_some n)
  Some (record { gate = record { 0 = net }; step = record { p = p; n = n } })
step_in k _ = None

-- the line after the lemmas
abbrev pub ending_in : List (List ℕ) → Option Ending
ending_in [] = None
ending_in (word ∷ words) =
    if is_word word (codes "gaps") then option_map ending.Gaps (gaps_in words) else
    if is_word word (codes "open") then (provided (length words == 0) >>= λ _. Some ending.Open) else
    None

-- a line of the lemmas, or the one after them
abbrev pub entry_in : Kinds → List (List ℕ) → Option Entry
entry_in k [] = None
entry_in k (word ∷ words) =
    if is_word word (codes "lemma") then option_map entry.Lemma (lemma_in k words) else
    option_map entry.Ending (ending_in (word ∷ words))

-- a line of the columns
abbrev pub column_in : Kinds → List (List ℕ) → Option LogStep
column_in k [] = None
column_in k (word ∷ words) = if is_word word (codes "column") then step_in k words else None
