-- Texts that are read, and those that are not, worked out.
use Rattle.std.specs.Prelude.{ℕ, ◌≡◌, ◌++◌, Bool, true, false, List, [], ◌∷◌, Some, None, Ok, Err, codes}
use Rattle.std.proofs.Common.{refl}
use Rattle.std.specs.Fmt.{digits}
use Rattle.row_state.specs.declared.kind.Kind.{Kind}
use Rattle.row_state.specs.declared.kind.Kinds.{Kinds}
use Rattle.log_lines.specs.Words.{number_below}
use Rattle.log_lines.specs.Lines.{behind, lines_in}
use Rattle.bound_log.specs.declared.fault.LogFault.TheVariants as fault
use Rattle.bound_log.specs.declared.log.Rule.TheVariants as by
use Rattle.bound_log.specs.declared.log.LogStep.{LogStep}
use Rattle.bound_log.specs.declared.log.Log.{Log}
use Rattle.bound_log.specs.Line.{version_in}
use Rattle.bound_log.specs.Reading.{columns_at, log_at, log_of}
use Rattle.bound_log.specs.Text.{log_text}

abbrev kind : ℕ → ℕ → ℕ → ℕ → Kind
kind gate lo hi width = record { gate = record { 0 = gate }; lo = record { 0 = lo }; hi = record { 0 = hi }; width = width; count = 1 }

-- three inverters
abbrev kinds : Kinds
kinds = record { nets = 8; p = kind 0 3 6 20 ∷ kind 1 4 6 20 ∷ kind 2 5 6 20 ∷ []; n = kind 0 3 7 10 ∷ kind 1 4 7 10 ∷ kind 2 5 7 10 ∷ [] }

abbrev column : ℕ → Bool → LogStep
column kind flipped = record { gate = record { 0 = kind }; step = record { p = Some (record { kind = kind; flipped = flipped }); n = Some (record { kind = kind; flipped = flipped }) } }

abbrev log : Log
log =
    record {
      version = 1;
      lemmas = record { state = record { p_left = 1 ∷ 1 ∷ 1 ∷ []; n_left = 1 ∷ 1 ∷ 1 ∷ []; p_end = None; n_end = None }; bound = 1; rule = by.P } ∷ [];
      best = Some (record { gaps = 1; steps = column 0 false ∷ column 1 false ∷ column 2 true ∷ [] });
    }

abbrev front : List ℕ
front = codes "cellgen-log 1\ncell x3\nlemma 1 P 1,1,1 1,1,1 - -\ngaps 1\ncolumn 0 0 0 0 0\ncolumn 1 1 0 1 0\ncolumn 2 2 1 2 1\n"

is_text : log_text (codes "x3") log ≡ front ++ codes "end\n"
unfolding digits
is_text = refl

is_read : log_of (front ++ codes "end\n") (codes "x3") kinds ≡ Ok log
unfolding behind columns_at digits lines_in log_at log_of number_below version_in
is_read = refl

is_cut : log_of front (codes "x3") kinds ≡ Err fault.Cut
unfolding behind columns_at digits lines_in log_at log_of number_below version_in
is_cut = refl

-- a text of one lemma
lemma_of : List ℕ → List ℕ
lemma_of fields = codes "cellgen-log 1\ncell x3\nlemma " ++ fields ++ codes "\n"

too_few_counts : log_of (lemma_of (codes "1 P 1,1 1,1,1 - -")) (codes "x3") kinds ≡ Err (fault.Line 3)
unfolding behind columns_at digits lemma_of lines_in log_at log_of number_below version_in
too_few_counts = refl

too_great_a_bound : log_of (lemma_of (codes "64 P 1,1,1 1,1,1 - -")) (codes "x3") kinds ≡ Err (fault.Line 3)
unfolding behind columns_at digits lemma_of lines_in log_at log_of number_below version_in
too_great_a_bound = refl

zero_in_front : log_of (lemma_of (codes "01 P 1,1,1 1,1,1 - -")) (codes "x3") kinds ≡ Err (fault.Line 3)
unfolding behind columns_at digits lemma_of lines_in log_at log_of number_below version_in
zero_in_front = refl

no_lead : log_of (lemma_of (codes "1 P 0,1,1 1,1,1 - -")) (codes "x3") kinds ≡ Err (fault.Line 3)
unfolding behind columns_at digits lemma_of lines_in log_at log_of number_below version_in
no_lead = refl

other_name : log_of (codes "cellgen-log 1\ncell x3 \n") (codes "x3") kinds ≡ Err fault.Cell
unfolding behind columns_at digits lines_in log_at log_of number_below version_in
other_name = refl

behind_end : log_of (front ++ codes "end\n ") (codes "x3") kinds ≡ Err (fault.Line 9)
unfolding behind columns_at digits lines_in log_at log_of number_below version_in
behind_end = refl
