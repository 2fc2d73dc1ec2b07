-- A log read byte by byte: each line feed ends a line, which says one item.
use Rattle.std.specs.Prelude.{ℕ, ◌+◌, ◌==◌, Bool, true, false, List, [], ◌∷◌, ◌++◌, Option, Some, None, Result, Ok, Err}
use Rattle.std.specs.Prelude.{length, codes, position, if◌then◌else◌}
use Rattle.row_state.specs.declared.kind.Kinds.{Kinds}
use Rattle.row_state.specs.Versions.{IsVersion}
use Rattle.log_lines.specs.Fronts.{longer}
use Rattle.log_lines.specs.Words.{is_word, words_in}
use Rattle.bound_log.specs.declared.fault.LogFault.{LogFault}
use Rattle.bound_log.specs.declared.fault.LogFault.TheVariants as fault
use Rattle.bound_log.specs.declared.item.LogItem.{LogItem}
use Rattle.bound_log.specs.declared.item.LogItem.TheVariants as item
use Rattle.bound_log.specs.declared.item.LogPlace.{LogPlace}
use Rattle.bound_log.specs.declared.item.LogPlace.TheVariants as place
use Rattle.bound_log.specs.declared.said.Said.{Said}
use Rattle.bound_log.specs.declared.log.LogStep.{LogStep}
use Rattle.bound_log.specs.declared.log.Log.{Log}
use Rattle.bound_log.specs.declared.log.Entry.{Entry}
use Rattle.bound_log.specs.declared.log.Ending.TheVariants as ending
use Rattle.bound_log.specs.declared.log.Entry.TheVariants as entry
use Rattle.bound_log.specs.Fits.{LemmaFits}
use Rattle.bound_log.specs.Line.{entry_in, column_in, version_in}

-- Where a reader of a log for this name and these kinds stands.
pub record Reader : Type 0 where
  pub name : List ℕ
  pub kinds : Kinds
  -- what line comes next, and its number
  pub place : LogPlace
  pub number : ℕ
  -- its bytes so far, unless they are more than a line of a log can have
  pub line : Option (List ℕ)
  -- the first wrong place, if there was one
  pub fault : Option LogFault

abbrev pub begun : List ℕ → Kinds → Reader
begun name k = record { name = name; kinds = k; place = place.Version; number = 1; line = Some []; fault = None }

abbrev pub said_if : Bool → LogItem → LogPlace → LogFault → Result Said LogFault
said_if true i next f = Ok (record { item = i; next = next })
said_if false i next f = Err f

-- the line of the name tells the version, which is remembered up to there
abbrev pub version_says : Option ℕ → Result Said LogFault
version_says (Some version) = Ok (record { item = item.More; next = place.Cell version })
version_says None = Err fault.Version

abbrev pub entry_said : Entry → Said
entry_said (entry.Lemma lemma) = record { item = item.Lemma lemma; next = place.Lemmas }
entry_said (entry.Ending (ending.Gaps gaps)) = record { item = item.Gaps gaps; next = place.Columns }
entry_said (entry.Ending ending.Open) = record { item = item.Open; next = place.End }

abbrev pub entry_says : Option Entry → LogFault → Result Said LogFault
entry_says (Some e) f = Ok (entry_said e)
entry_says None f = Err f

abbrev pub column_says : Option LogStep → LogFault → Result Said LogFault
column_says (Some column) f = Ok (record { item = item.Column column; next = place.Columns })
column_says None f = Err f

abbrev pub end_said : Said
end_said = record { item = item.End; next = place.Behind }

abbrev pub columns_say : Kinds → ℕ → List ℕ → Result Said LogFault
columns_say k n line = if is_word line (codes "end") then Ok end_said
    else column_says (column_in k (words_in line)) (fault.Line n)

-- what the line of that number says there
abbrev pub line_says : List ℕ → Kinds → LogPlace → ℕ → List ℕ → Result Said LogFault
line_says name k place.Version n line = version_says (version_in line)
line_says name k (place.Cell version) n line =
    said_if (is_word line (codes "cell " ++ name)) (item.Head version) place.Lemmas fault.Cell
line_says name k place.Lemmas n line = entry_says (entry_in k (words_in line)) (fault.Line n)
line_says name k place.Columns n line = columns_say k n line
line_says name k place.End n line = said_if (is_word line (codes "end")) item.End place.Behind (fault.Line n)
line_says name k place.Behind n line = Err (fault.Line n)

-- a head has one of the versions, and a lemma is in range for the kinds
abbrev pub ItemFits : Kinds → LogItem → Type 0
ItemFits k (item.Head version) = IsVersion version
ItemFits k (item.Lemma lemma) = LemmaFits k lemma
ItemFits k _ = Unit {0}

abbrev pub PlaceFits : LogPlace → Type 0
PlaceFits (place.Cell version) = IsVersion version
PlaceFits _ = Unit {0}

abbrev pub SaidFits : Kinds → Said → Type 0
SaidFits k said = ItemFits k said.item × PlaceFits said.next

-- what is wrong there with a line of another form
abbrev pub wrong_at : LogPlace → ℕ → LogFault
wrong_at place.Version n = fault.Version
wrong_at (place.Cell version) n = fault.Cell
wrong_at place.Lemmas n = fault.Line n
wrong_at place.Columns n = fault.Line n
wrong_at place.End n = fault.Line n
wrong_at place.Behind n = fault.Line n

-- so does a line of which too many bytes came
abbrev pub whole_says : Reader → Option (List ℕ) → Result Said LogFault
whole_says r (Some line) = line_says r.name r.kinds r.place r.number line
whole_says r None = Err (wrong_at r.place r.number)

abbrev pub with_line : Reader → Option (List ℕ) → Reader
with_line r line = record {
  name = r.name;
  kinds = r.kinds;
  place = r.place;
  number = r.number;
  line = line;
  fault = r.fault;
}

abbrev pub refused : Reader → LogFault → Reader
refused r f = record {
  name = r.name;
  kinds = r.kinds;
  place = r.place;
  number = r.number;
  line = Some [];
  fault = Some f;
}

abbrev pub passed : Reader → LogPlace → Reader
passed r next = record {
  name = r.name;
  kinds = r.kinds;
  place = next;
  number = r.number + 1;
  line = Some [];
  fault = None;
}

-- behind a line
abbrev pub behind_line : Reader → Result Said LogFault → Reader
behind_line r (Ok said) = passed r said.next
behind_line r (Err f) = refused r f

-- the items that are told: `More` tells nothing
abbrev pub told : LogItem → List LogItem
told item.More = []
told i = i ∷ []

abbrev pub told_by : Result Said LogFault → List LogItem
told_by (Ok said) = told said.item
told_by (Err f) = []

-- items, and the reader behind them
pub record Tale : Type 0 where
  pub items : List LogItem
  pub reader : Reader

abbrev pub line_tale : Reader → Result Said LogFault → Tale
line_tale r said = record { items = told_by said; reader = behind_line r said }

-- one byte more, of a line that may be
abbrev pub byte_tale : Reader → ℕ → Tale
byte_tale r b =
    if b == 10 then line_tale r (whole_says r r.line) else
    record { items = []; reader = with_line r (longer r.line (b ∷ [])) }

-- one byte more: none may stand behind `end`, and none counts behind a fault
abbrev pub next_tale : Option LogFault → LogPlace → Reader → ℕ → Tale
next_tale (Some f) p r b = record { items = []; reader = r }
next_tale None place.Behind r b = record { items = []; reader = refused r (fault.Line r.number) }
next_tale None _ r b = byte_tale r b

abbrev pub then_tale : Tale → (Reader → Tale) → Tale
then_tale first rest = record { items = first.items ++ (rest first.reader).items; reader = (rest first.reader).reader }

-- all that some bytes more tell
unfoldable pub tale_of : Reader → List ℕ → Tale
tale_of r [] = record { items = []; reader = r }
tale_of r (b ∷ bs) = then_tale (next_tale r.fault r.place r b) (λ next. tale_of next bs)

abbrev pub bytes_to : List ℕ → Option ℕ → ℕ
bytes_to part (Some at) = at + 1
bytes_to part None = length part

-- how many bytes there are up to the end of the first line
abbrev pub line_bytes : List ℕ → ℕ
line_bytes part = bytes_to part (position (λ b. b == 10) part)

-- the reader at the end of the bytes: its fault, or `Cut` unless `end` was there
abbrev pub ended : {A : Type 0} → Option LogFault → LogPlace → A → Result A LogFault
ended (Some f) p a = Err f
ended None place.Behind a = Ok a
ended None _ a = Err fault.Cut

abbrev pub columns_told : List LogItem → List LogStep
columns_told [] = []
columns_told (item.Column column ∷ items) = column ∷ columns_told items
columns_told (_ ∷ items) = columns_told items

abbrev pub with_version : ℕ → Log → Log
with_version version log = record { version = version; lemmas = log.lemmas; best = log.best }

-- the log of the items told; where no head was, its version is 0, which no log has
abbrev pub log_told : List LogItem → Log
log_told [] = record { version = 0; lemmas = []; best = None }
log_told (item.Head version ∷ items) = with_version version (log_told items)
log_told (item.Lemma lemma ∷ items) = record {
  version = (log_told items).version;
  lemmas = lemma ∷ (log_told items).lemmas;
  best = (log_told items).best;
}
log_told (item.Gaps gaps ∷ items) = record {
  version = 0;
  lemmas = [];
  best = Some (record { gaps = gaps; steps = columns_told items });
}
log_told (_ ∷ items) = log_told items

-- the log told, or the fault
abbrev pub log_read : Tale → Result Log LogFault
log_read tale = ended tale.reader.fault tale.reader.place (log_told tale.items)
