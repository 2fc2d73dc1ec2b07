-- The items of a text come in the order of a log's lines, so the log told is the log of the items one by one.
use Rattle.std.proofs.Common.{ℕ, ◌≡◌, ◌∷◌, ◌++◌, ◌==◌, Bool, true, false, List, [], Option, Some, None, Result, Ok, Err, IfOk, refl, sym, ap, arith, ◌∙◌, inl, inr}
use Rattle.std.specs.Prelude.{All, codes}
use Rattle.std.proofs.lemmas.Bool.{cases_Bool}
use Rattle.std.proofs.lemmas.List.{append-nil, append_assoc}
use Rattle.std.proofs.lemmas.List.Elements.{All-append, All-cons, All-head, All-nil, All-tail}
use Rattle.row_state.specs.declared.kind.Kinds.{Kinds}
use Rattle.row_state.specs.Versions.{IsVersion}
use Rattle.log_lines.specs.Words.{is_word, words_in}
use Rattle.log_lines.specs.Fronts.{longer}
use Rattle.bound_log.specs.declared.fault.LogFault.{LogFault}
use Rattle.bound_log.specs.declared.fault.LogFault.TheVariants as fault
use Rattle.bound_log.specs.declared.item.LogItem.{LogItem}
use Rattle.bound_log.specs.declared.item.LogItem.TheVariants as item
use Rattle.bound_log.specs.declared.item.LogPlace.{LogPlace}
use Rattle.bound_log.specs.declared.item.LogPlace.TheVariants as place
use Rattle.bound_log.specs.declared.log.Lemma.{Lemma}
use Rattle.bound_log.specs.declared.log.LogStep.{LogStep}
use Rattle.bound_log.specs.declared.log.Best.{Best}
use Rattle.bound_log.specs.declared.log.Entry.{Entry}
use Rattle.bound_log.specs.declared.log.Entry.TheVariants as entry
use Rattle.bound_log.specs.declared.log.Ending.TheVariants as ending
use Rattle.bound_log.specs.declared.log.Log.{Log}
use Rattle.bound_log.specs.declared.said.Said.{Said}
use Rattle.bound_log.specs.Line.{column_in, entry_in, version_in}
use Rattle.bound_log.specs.Pieces.{Reader, behind_line, byte_tale, column_says, columns_told, entry_says, line_says, line_tale, log_told, next_tale, passed, refused, said_if, tale_of, told, told_by, version_says, whole_says, with_line}
use Rattle.log_check.specs.Items.{more_steps}
use Rattle.cell_commands.specs.LogRead.{no_log, with_items}

-- ---- behind the line of gaps, and behind `open`, lines are columns or the end

abbrev pub IsLate : LogItem → Type 0
IsLate (item.Column column) = Unit {0}
IsLate item.End = Unit {0}
IsLate _ = ⊥

abbrev pub IsLatePlace : LogPlace → Type 0
IsLatePlace place.Columns = Unit {0}
IsLatePlace place.End = Unit {0}
IsLatePlace place.Behind = Unit {0}
IsLatePlace _ = ⊥

-- what a line says there, and where that leads
abbrev IsLateSaid : Said → Type 0
IsLateSaid said = IsLate said.item × IsLatePlace said.next

column_late : (o : Option LogStep) (f : LogFault) → IfOk (column_says o f) IsLateSaid
column_late None f = tt
column_late (Some column) f = (tt, tt)

end_late : (b : Bool) (f : LogFault) → IfOk (said_if b item.End place.Behind f) IsLateSaid
end_late true f = (tt, tt)
end_late false f = tt

says_late : (name : List ℕ) (k : Kinds) (p : LogPlace) (n : ℕ) (line : List ℕ) → IsLatePlace p → IfOk (line_says name k p n line) IsLateSaid
says_late name k place.Version n line late = absurd late
says_late name k (place.Cell version) n line late = absurd late
says_late name k place.Lemmas n line late = absurd late
says_late name k place.Columns n line late = elim (cases_Bool (is_word line (codes "end"))) [
  | inl end ↦ rw end (tt, tt)
  | inr other ↦ rw other (column_late (column_in k (words_in line)) (fault.Line n))
]
says_late name k place.End n line late = end_late (is_word line (codes "end")) (fault.Line n)
says_late name k place.Behind n line late = tt

whole_late : (r : Reader) (line : Option (List ℕ)) → IsLatePlace r.place → IfOk (whole_says r line) IsLateSaid
whole_late r None late = tt
whole_late r (Some line) late = says_late r.name r.kinds r.place r.number line late

-- so do those told from there on
abbrev AreLate : List LogItem → LogPlace → Type 0
AreLate items p = All IsLate items × IsLatePlace p

told_late : (i : LogItem) → IsLate i → All IsLate (told i)
told_late item.More late = All-nil IsLate
told_late (item.Head version) late = absurd late
told_late (item.Lemma lemma) late = absurd late
told_late (item.Gaps gaps) late = absurd late
told_late (item.Column column) late = All-cons IsLate (item.Column column) [] tt (All-nil IsLate)
told_late item.Open late = absurd late
told_late item.End late = All-cons IsLate item.End [] tt (All-nil IsLate)

line_late : (r : Reader) (said : Result Said LogFault) → IsLatePlace r.place → IfOk said IsLateSaid → AreLate (line_tale r said).items (line_tale r said).reader.place
line_late r (Err f) late says = (All-nil IsLate, late)
line_late r (Ok said) late says = (told_late said.item says.0, says.1)

byte_late : (r : Reader) (b : ℕ) → IsLatePlace r.place → AreLate (byte_tale r b).items (byte_tale r b).reader.place
byte_late r b late = elim (cases_Bool (b == 10)) [
  | inl feed ↦ rw feed (line_late r (whole_says r r.line) late (whole_late r r.line late))
  | inr other ↦ rw other (All-nil IsLate, late)
]

next_late : (o : Option LogFault) (p : LogPlace) (r : Reader) (b : ℕ) → IsLatePlace r.place → AreLate (next_tale o p r b).items (next_tale o p r b).reader.place
next_late (Some f) p r b late = (All-nil IsLate, late)
next_late None place.Behind r b late = (All-nil IsLate, late)
next_late None place.Version r b late = byte_late r b late
next_late None (place.Cell version) r b late = byte_late r b late
next_late None place.Lemmas r b late = byte_late r b late
next_late None place.Columns r b late = byte_late r b late
next_late None place.End r b late = byte_late r b late

tale_late : (r : Reader) (bytes : List ℕ) → IsLatePlace r.place → All IsLate (tale_of r bytes).items
unfolding tale_of
tale_late r [] late = All-nil IsLate
tale_late r (b ∷ bytes) late =
    let first = next_tale r.fault r.place r b in
    let these : AreLate first.items first.reader.place = next_late r.fault r.place r b late in
    All-append IsLate first.items (tale_of first.reader bytes).items these.0 (tale_late first.reader bytes these.1)

-- ---- behind the head no other head comes, and behind the gaps no lemma

abbrev pub AreBehindHead : List LogItem → Type 0
AreBehindHead [] = Unit {0}
AreBehindHead (item.Head version ∷ items) = ⊥
AreBehindHead (item.Gaps gaps ∷ items) = All IsLate items
AreBehindHead (_ ∷ items) = AreBehindHead items

-- the items of any text: behind a head, which comes first, or none
abbrev pub AreInOrder : List LogItem → Type 0
AreInOrder (item.Head version ∷ items) = AreBehindHead items
AreInOrder items = AreBehindHead items

-- behind the line of the name
abbrev pub IsHeaded : LogPlace → Type 0
IsHeaded place.Version = ⊥
IsHeaded (place.Cell version) = ⊥
IsHeaded _ = Unit {0}

-- what a line says behind the line of the name, and where that leads
abbrev pub Leads : LogItem → LogPlace → Type 0
Leads (item.Head version) next = ⊥
Leads (item.Gaps gaps) next = IsLatePlace next
Leads _ next = IsHeaded next

-- the same for a line that may stand anywhere
abbrev pub Follows : LogItem → LogPlace → Type 0
Follows item.More next = Unit {0}
Follows (item.Head version) next = IsHeaded next
Follows (item.Gaps gaps) next = IsLatePlace next
Follows _ next = IsHeaded next

abbrev LeadsSaid : Said → Type 0
LeadsSaid said = Leads said.item said.next

abbrev FollowsSaid : Said → Type 0
FollowsSaid said = Follows said.item said.next

entry_leads : (o : Option Entry) (f : LogFault) → IfOk (entry_says o f) LeadsSaid
entry_leads None f = tt
entry_leads (Some (entry.Lemma lemma)) f = tt
entry_leads (Some (entry.Ending (ending.Gaps gaps))) f = tt
entry_leads (Some (entry.Ending ending.Open)) f = tt

column_leads : (o : Option LogStep) (f : LogFault) → IfOk (column_says o f) LeadsSaid
column_leads None f = tt
column_leads (Some column) f = tt

end_leads : (b : Bool) (f : LogFault) → IfOk (said_if b item.End place.Behind f) LeadsSaid
end_leads true f = tt
end_leads false f = tt

says_leads : (name : List ℕ) (k : Kinds) (p : LogPlace) (n : ℕ) (line : List ℕ) → IsHeaded p → IfOk (line_says name k p n line) LeadsSaid
says_leads name k place.Version n line headed = absurd headed
says_leads name k (place.Cell version) n line headed = absurd headed
says_leads name k place.Lemmas n line headed = entry_leads (entry_in k (words_in line)) (fault.Line n)
says_leads name k place.Columns n line headed = elim (cases_Bool (is_word line (codes "end"))) [
  | inl end ↦ rw end tt
  | inr other ↦ rw other (column_leads (column_in k (words_in line)) (fault.Line n))
]
says_leads name k place.End n line headed = end_leads (is_word line (codes "end")) (fault.Line n)
says_leads name k place.Behind n line headed = tt

leads_follows : (i : LogItem) (next : LogPlace) → Leads i next → Follows i next
leads_follows item.More next leads = tt
leads_follows (item.Head version) next leads = absurd leads
leads_follows (item.Lemma lemma) next leads = leads
leads_follows (item.Gaps gaps) next leads = leads
leads_follows (item.Column column) next leads = leads
leads_follows item.Open next leads = leads
leads_follows item.End next leads = leads

all_follow : (said : Result Said LogFault) → IfOk said LeadsSaid → IfOk said FollowsSaid
all_follow (Ok said) leads = leads_follows said.item said.next leads
all_follow (Err f) leads = tt

version_follows : (o : Option ℕ) → IfOk (version_says o) FollowsSaid
version_follows None = tt
version_follows (Some version) = tt

head_follows : (b : Bool) (version : ℕ) → IfOk (said_if b (item.Head version) place.Lemmas fault.Cell) FollowsSaid
head_follows true version = tt
head_follows false version = tt

says_follow : (name : List ℕ) (k : Kinds) (p : LogPlace) (n : ℕ) (line : List ℕ) → IfOk (line_says name k p n line) FollowsSaid
says_follow name k place.Version n line = version_follows (version_in line)
says_follow name k (place.Cell version) n line = head_follows (is_word line (codes "cell " ++ name)) version
says_follow name k place.Lemmas n line = all_follow (line_says name k place.Lemmas n line) (says_leads name k place.Lemmas n line tt)
says_follow name k place.Columns n line = all_follow (line_says name k place.Columns n line) (says_leads name k place.Columns n line tt)
says_follow name k place.End n line = all_follow (line_says name k place.End n line) (says_leads name k place.End n line tt)
says_follow name k place.Behind n line = tt

whole_leads : (r : Reader) (line : Option (List ℕ)) → IsHeaded r.place → IfOk (whole_says r line) LeadsSaid
whole_leads r None headed = tt
whole_leads r (Some line) headed = says_leads r.name r.kinds r.place r.number line headed

whole_follows : (r : Reader) (line : Option (List ℕ)) → IfOk (whole_says r line) FollowsSaid
whole_follows r None = tt
whole_follows r (Some line) = says_follow r.name r.kinds r.place r.number line

-- ---- all bytes behind the line of the name

told_behind : (i : LogItem) (next : LogPlace) (items : List LogItem) → Leads i next → (IsHeaded next → AreBehindHead items) → (IsLatePlace next → All IsLate items) → AreBehindHead (told i ++ items)
told_behind item.More next items leads headed late = headed leads
told_behind (item.Head version) next items leads headed late = absurd leads
told_behind (item.Lemma lemma) next items leads headed late = headed leads
told_behind (item.Gaps gaps) next items leads headed late = late leads
told_behind (item.Column column) next items leads headed late = headed leads
told_behind item.Open next items leads headed late = headed leads
told_behind item.End next items leads headed late = headed leads

-- what the bytes behind tell, from wherever a reader stands
abbrev BehindHead : (Reader → List LogItem) → Type 0
BehindHead rest = (s : Reader) → IsHeaded s.place → AreBehindHead (rest s)

abbrev Late : (Reader → List LogItem) → Type 0
Late rest = (s : Reader) → IsLatePlace s.place → All IsLate (rest s)

line_behind : (r : Reader) (said : Result Said LogFault) (rest : Reader → List LogItem) → IsHeaded r.place → IfOk said LeadsSaid → BehindHead rest → Late rest → AreBehindHead (told_by said ++ rest (behind_line r said))
line_behind r (Err f) rest headed leads behind late = behind (refused r f) headed
line_behind r (Ok said) rest headed leads behind late = told_behind said.item said.next (rest (passed r said.next)) leads (behind (passed r said.next)) (late (passed r said.next))

byte_behind : (r : Reader) (b : ℕ) (rest : Reader → List LogItem) → IsHeaded r.place → BehindHead rest → Late rest → AreBehindHead ((byte_tale r b).items ++ rest (byte_tale r b).reader)
byte_behind r b rest headed behind late = elim (cases_Bool (b == 10)) [
  | inl feed ↦ rw feed (line_behind r (whole_says r r.line) rest headed (whole_leads r r.line headed) behind late)
  | inr other ↦ rw other (behind (with_line r (longer r.line (b ∷ []))) headed)
]

next_behind : (o : Option LogFault) (p : LogPlace) (r : Reader) (b : ℕ) (rest : Reader → List LogItem) → IsHeaded r.place → BehindHead rest → Late rest → AreBehindHead ((next_tale o p r b).items ++ rest (next_tale o p r b).reader)
next_behind (Some f) p r b rest headed behind late = behind r headed
next_behind None place.Behind r b rest headed behind late = behind (refused r (fault.Line r.number)) headed
next_behind None place.Version r b rest headed behind late = byte_behind r b rest headed behind late
next_behind None (place.Cell version) r b rest headed behind late = byte_behind r b rest headed behind late
next_behind None place.Lemmas r b rest headed behind late = byte_behind r b rest headed behind late
next_behind None place.Columns r b rest headed behind late = byte_behind r b rest headed behind late
next_behind None place.End r b rest headed behind late = byte_behind r b rest headed behind late

tale_behind : (bytes : List ℕ) (r : Reader) → IsHeaded r.place → AreBehindHead (tale_of r bytes).items
unfolding tale_of
tale_behind [] r headed = tt
tale_behind (b ∷ bytes) r headed = next_behind r.fault r.place r b (λ s. (tale_of s bytes).items) headed (tale_behind bytes) (λ s late. tale_late s bytes late)

-- ---- all bytes

told_in_order : (i : LogItem) (next : LogPlace) (items : List LogItem) → Follows i next → AreInOrder items → (IsHeaded next → AreBehindHead items) → (IsLatePlace next → All IsLate items) → AreInOrder (told i ++ items)
told_in_order item.More next items follows order headed late = order
told_in_order (item.Head version) next items follows order headed late = headed follows
told_in_order (item.Lemma lemma) next items follows order headed late = headed follows
told_in_order (item.Gaps gaps) next items follows order headed late = late follows
told_in_order (item.Column column) next items follows order headed late = headed follows
told_in_order item.Open next items follows order headed late = headed follows
told_in_order item.End next items follows order headed late = headed follows

abbrev InOrder : (Reader → List LogItem) → Type 0
InOrder rest = (s : Reader) → AreInOrder (rest s)

line_in_order : (r : Reader) (said : Result Said LogFault) (rest : Reader → List LogItem) → IfOk said FollowsSaid → InOrder rest → BehindHead rest → Late rest → AreInOrder (told_by said ++ rest (behind_line r said))
line_in_order r (Err f) rest follows order behind late = order (refused r f)
line_in_order r (Ok said) rest follows order behind late = told_in_order said.item said.next (rest (passed r said.next)) follows (order (passed r said.next)) (behind (passed r said.next)) (late (passed r said.next))

byte_in_order : (r : Reader) (b : ℕ) (rest : Reader → List LogItem) → InOrder rest → BehindHead rest → Late rest → AreInOrder ((byte_tale r b).items ++ rest (byte_tale r b).reader)
byte_in_order r b rest order behind late = elim (cases_Bool (b == 10)) [
  | inl feed ↦ rw feed (line_in_order r (whole_says r r.line) rest (whole_follows r r.line) order behind late)
  | inr other ↦ rw other (order (with_line r (longer r.line (b ∷ []))))
]

next_in_order : (o : Option LogFault) (p : LogPlace) (r : Reader) (b : ℕ) (rest : Reader → List LogItem) → InOrder rest → BehindHead rest → Late rest → AreInOrder ((next_tale o p r b).items ++ rest (next_tale o p r b).reader)
next_in_order (Some f) p r b rest order behind late = order r
next_in_order None place.Behind r b rest order behind late = order (refused r (fault.Line r.number))
next_in_order None place.Version r b rest order behind late = byte_in_order r b rest order behind late
next_in_order None (place.Cell version) r b rest order behind late = byte_in_order r b rest order behind late
next_in_order None place.Lemmas r b rest order behind late = byte_in_order r b rest order behind late
next_in_order None place.Columns r b rest order behind late = byte_in_order r b rest order behind late
next_in_order None place.End r b rest order behind late = byte_in_order r b rest order behind late

tale_in_order : (bytes : List ℕ) (r : Reader) → AreInOrder (tale_of r bytes).items
unfolding tale_of
tale_in_order [] r = tt
tale_in_order (b ∷ bytes) r = next_in_order r.fault r.place r b (λ s. (tale_of s bytes).items) (tale_in_order bytes) (λ s. tale_behind bytes s) (λ s late. tale_late s bytes late)

-- ---- one by one

log_of_parts : ℕ → List Lemma → Option Best → Log
log_of_parts version lemmas best = record { version = version; lemmas = lemmas; best = best }

late_one : (v : ℕ) (lemmas : List Lemma) (row : Best) (items : List LogItem) → All IsLate items → with_items (log_of_parts v lemmas (Some row)) items ≡ log_of_parts v lemmas (Some (more_steps (columns_told items) row))
unfolding log_of_parts
late_one v lemmas row [] late = ap (λ (steps : List LogStep). log_of_parts v lemmas (Some (record { gaps = row.gaps; steps = steps }))) (sym (append-nil row.steps))
late_one v lemmas row (item.Column column ∷ items) late =
    late_one v lemmas (more_steps (column ∷ []) row) items (All-tail IsLate (item.Column column) items late)
    ∙ ap (λ (steps : List LogStep). log_of_parts v lemmas (Some (record { gaps = row.gaps; steps = steps }))) (append_assoc row.steps (column ∷ []) (columns_told items))
late_one v lemmas row (item.End ∷ items) late = late_one v lemmas row items (All-tail IsLate item.End items late)
late_one v lemmas row (item.More ∷ items) late = absurd (All-head IsLate item.More items late)
late_one v lemmas row (item.Head version ∷ items) late = absurd (All-head IsLate (item.Head version) items late)
late_one v lemmas row (item.Lemma lemma ∷ items) late = absurd (All-head IsLate (item.Lemma lemma) items late)
late_one v lemmas row (item.Gaps gaps ∷ items) late = absurd (All-head IsLate (item.Gaps gaps) items late)
late_one v lemmas row (item.Open ∷ items) late = absurd (All-head IsLate item.Open items late)

all_one : (v : ℕ) (lemmas : List Lemma) (items : List LogItem) → AreBehindHead items → with_items (log_of_parts v lemmas None) items ≡ log_of_parts v (lemmas ++ (log_told items).lemmas) (log_told items).best
unfolding log_of_parts
all_one v lemmas [] order = ap (λ (all : List Lemma). log_of_parts v all None) (sym (append-nil lemmas))
all_one v lemmas (item.Lemma lemma ∷ items) order =
    all_one v (lemmas ++ lemma ∷ []) items order
    ∙ ap (λ (all : List Lemma). log_of_parts v all (log_told items).best) (append_assoc lemmas (lemma ∷ []) (log_told items).lemmas)
all_one v lemmas (item.Gaps gaps ∷ items) order =
    late_one v lemmas (record { gaps = gaps; steps = [] }) items order
    ∙ ap (λ (all : List Lemma). log_of_parts v all (Some (record { gaps = gaps; steps = columns_told items }))) (sym (append-nil lemmas))
all_one v lemmas (item.Head version ∷ items) order = absurd order
all_one v lemmas (item.More ∷ items) order = all_one v lemmas items order
all_one v lemmas (item.Column column ∷ items) order = all_one v lemmas items order
all_one v lemmas (item.Open ∷ items) order = all_one v lemmas items order
all_one v lemmas (item.End ∷ items) order = all_one v lemmas items order

-- items without a head tell no version
no_version : (items : List LogItem) → AreBehindHead items → (log_told items).version ≡ 0
no_version [] order = refl
no_version (item.Lemma lemma ∷ items) order = no_version items order
no_version (item.Gaps gaps ∷ items) order = refl
no_version (item.Head version ∷ items) order = absurd order
no_version (item.More ∷ items) order = no_version items order
no_version (item.Column column ∷ items) order = no_version items order
no_version (item.Open ∷ items) order = no_version items order
no_version (item.End ∷ items) order = no_version items order

is_some_version : (version : ℕ) → IsVersion version → version ≡ 0 → ⊥
is_some_version version (inl one) none = absurd (omega (arith, one, none))
is_some_version version (inr two) none = absurd (omega (arith, two, none))

without_head : (log : Log) (items : List LogItem) → AreBehindHead items → IsVersion (log_told items).version → with_items log items ≡ log_told items
without_head log items order version = absurd (is_some_version (log_told items).version version (no_version items order))

in_order : (log : Log) (items : List LogItem) → AreInOrder items → IsVersion (log_told items).version → with_items log items ≡ log_told items
unfolding log_of_parts
in_order log (item.Head version ∷ items) order known = all_one version [] items order
in_order log [] order known = without_head log [] order known
in_order log (item.More ∷ items) order known = without_head log (item.More ∷ items) order known
in_order log (item.Lemma lemma ∷ items) order known = without_head log (item.Lemma lemma ∷ items) order known
in_order log (item.Gaps gaps ∷ items) order known = without_head log (item.Gaps gaps ∷ items) order known
in_order log (item.Column column ∷ items) order known = without_head log (item.Column column ∷ items) order known
in_order log (item.Open ∷ items) order known = without_head log (item.Open ∷ items) order known
in_order log (item.End ∷ items) order known = without_head log (item.End ∷ items) order known

-- where a version was told, the items give the log one by one
pub log_again : (r : Reader) (bytes : List ℕ) → IsVersion (log_told (tale_of r bytes).items).version → with_items no_log (tale_of r bytes).items ≡ log_told (tale_of r bytes).items
log_again r bytes known = in_order no_log (tale_of r bytes).items (tale_in_order bytes r) known
