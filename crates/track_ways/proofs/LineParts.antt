-- Tracks line by line, parted between two lines.
use Rattle.std.proofs.Common.{ℕ, ◌≡◌, ◌≤◌, ◌||◌, Bool, true, false, List, [], ◌∷◌, ◌++◌, refl, sym, ap, subst, ◌∙◌}
use Rattle.cell_num.specs.declared.net.NetNo.{NetNo}
use Rattle.cell_num.specs.declared.net.Pins.{Pins}
use Rattle.track_ways.specs.declared.line.Line.{Line}
use Rattle.track_ways.specs.Lines.{Agrees, LineRule, PassesBy, SweepsBy, has_place, is_ahead, with_line}
use Rattle.track_ways.specs.Rules.{IsAgain, IsWider}

-- tests of nets that agree are one
pub same_tests : (a b : NetNo → Bool) → ((net : NetNo) → a net ≡ b net) → a ≡ b
same_tests a b h = λ i net. h net i

pub or_none : (b : Bool) → (b || false) ≡ b
or_none true = refl
or_none false = refl

or_assoc : (a b c : Bool) → (a || (b || c)) ≡ ((a || b) || c)
or_assoc true b c = refl
or_assoc false b c = refl

pub ahead_append : (xs ys : List Line) (net : NetNo) → is_ahead (xs ++ ys) net ≡ (is_ahead xs net || is_ahead ys net)
ahead_append [] ys net = refl
ahead_append (x ∷ xs) ys net = ap (λ b. has_place x net || b) (ahead_append xs ys net) ∙ or_assoc (has_place x net) (is_ahead xs net) (is_ahead ys net)

-- the nets with a place before some lines or at one of them
abbrev pub with_lines : (NetNo → Bool) → List Line → NetNo → Bool
with_lines before lines net = before net || is_ahead lines net

pub no_lines : (before : NetNo → Bool) → with_lines before [] ≡ before
no_lines before = same_tests (with_lines before []) before (λ net. or_none (before net))

pub one_more : (before : NetNo → Bool) (x : Line) (xs : List Line) → with_lines before (x ∷ xs) ≡ with_lines (with_line before x) xs
one_more before x xs = same_tests (with_lines before (x ∷ xs)) (with_lines (with_line before x) xs) (λ net. or_assoc (before net) (has_place x net) (is_ahead xs net))

pub ahead_both : (xs ys : List Line) → is_ahead (xs ++ ys) ≡ (λ net. is_ahead xs net || is_ahead ys net)
ahead_both xs ys = same_tests (is_ahead (xs ++ ys)) (λ net. is_ahead xs net || is_ahead ys net) (λ net. ahead_append xs ys net)

-- the nets with a place at the first line or after it
pub first_of_lines : (line : Line) (xs : List Line) (after : NetNo → Bool) →
    ◌≡◌ {A = NetNo → Bool} (λ net. has_place line net || (is_ahead xs net || after net)) (λ net. is_ahead (line ∷ xs) net || after net)
first_of_lines line xs after = same_tests (λ net. has_place line net || (is_ahead xs net || after net)) (λ net. is_ahead (line ∷ xs) net || after net) (λ net. or_assoc (has_place line net) (is_ahead xs net) (after net))

-- of the tracks before lines those of the open nets alone count
pub sweeps_again : (rule : LineRule) → IsAgain rule → (pins : Pins) (limit : ℕ) (before : NetNo → Bool) (track other : NetNo → ℕ) (lines : List Line) → Agrees pins before (is_ahead lines) other track → SweepsBy rule pins limit before track lines → SweepsBy rule pins limit before other lines
sweeps_again rule again' pins limit before track other [] agrees s = tt
sweeps_again rule again' pins limit before track other (line ∷ rest) agrees (next, fits, more) = (next, again' pins limit before line (is_ahead rest) track other next agrees fits, more)

pub passes_again : (rule : LineRule) → IsAgain rule → (pins : Pins) (limit : ℕ) (before : NetNo → Bool)
    (track other : NetNo → ℕ) (xs : List Line) (after : NetNo → Bool) (last : NetNo → ℕ) →
    Agrees pins before (λ net. is_ahead xs net || after net) other track →
    PassesBy rule pins limit before track xs after last → PassesBy rule pins limit before other xs after last
passes_again rule again' pins limit before track other [] after last agrees p = λ net o. p net o ∙ agrees net o
passes_again rule again' pins limit before track other (line ∷ xs) after last agrees (next, fits, more) = (
  next,
  again' pins limit before line (λ net. is_ahead xs net || after net) track other next
      (subst (λ (b : NetNo → Bool). Agrees pins before b other track) (sym (first_of_lines line xs after)) agrees) fits,
  more,
)

-- tracks through lines are so below a higher limit, too
pub sweeps_wider : (rule : LineRule) → IsWider rule → (pins : Pins) (few many : ℕ) (before : NetNo → Bool) (track : NetNo → ℕ) (lines : List Line) → few ≤ many → SweepsBy rule pins few before track lines → SweepsBy rule pins many before track lines
sweeps_wider rule wider' pins few many before track [] le s = tt
sweeps_wider rule wider' pins few many before track (line ∷ rest) le (next, fits, more) = (next, wider' pins few many before line (is_ahead rest) track next le fits, sweeps_wider rule wider' pins few many (with_line before line) next rest le more)

-- tracks between the two parts
pub record Parted (rule : LineRule) (pins : Pins) (limit : ℕ) (before : NetNo → Bool) (track : NetNo → ℕ) (xs ys : List Line) : Type 0 where
  pub last : NetNo → ℕ
  pub passes : PassesBy rule pins limit before track xs (is_ahead ys) last
  pub sweeps : SweepsBy rule pins limit (with_lines before xs) last ys

pub part : (rule : LineRule) (pins : Pins) (limit : ℕ) (before : NetNo → Bool) (track : NetNo → ℕ) (xs ys : List Line) → SweepsBy rule pins limit before track (xs ++ ys) → Parted rule pins limit before track xs ys
part rule pins limit before track [] ys s = record { last = track; passes = λ net o. refl; sweeps = subst (λ (b : NetNo → Bool). SweepsBy rule pins limit b track ys) (sym (no_lines before)) s }
part rule pins limit before track (x ∷ xs) ys (next, fits, more) = joined (part rule pins limit (with_line before x) next xs ys more)
  where
    joined : Parted rule pins limit (with_line before x) next xs ys → Parted rule pins limit before track (x ∷ xs) ys
    joined r = record {
      last = r.last;
      passes = (next, subst (λ (b : NetNo → Bool). rule pins limit track before x b next) (ahead_both xs ys) fits, r.passes);
      sweeps = subst (λ (b : NetNo → Bool). SweepsBy rule pins limit b r.last ys) (sym (one_more before x xs)) r.sweeps;
    }

pub join : (rule : LineRule) → IsAgain rule → (pins : Pins) (limit : ℕ) (before : NetNo → Bool) (track last : NetNo → ℕ)
    (xs ys : List Line) → PassesBy rule pins limit before track xs (is_ahead ys) last →
    SweepsBy rule pins limit (with_lines before xs) last ys → SweepsBy rule pins limit before track (xs ++ ys)
join rule again' pins limit before track last [] ys p s = sweeps_again rule again' pins limit before last track ys p (subst (λ (b : NetNo → Bool). SweepsBy rule pins limit b last ys) (no_lines before) s)
join rule again' pins limit before track last (x ∷ xs) ys (next, fits, more) s = (
  next,
  subst (λ (b : NetNo → Bool). rule pins limit track before x b next) (sym (ahead_both xs ys)) fits,
  join rule again' pins limit (with_line before x) next last xs ys more (subst (λ (b : NetNo → Bool). SweepsBy rule pins limit b last ys) (one_more before x xs) s),
)
