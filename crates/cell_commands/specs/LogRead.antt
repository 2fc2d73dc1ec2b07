-- A log that is read and checked part by part.
use Rattle.std.specs.Prelude.{ℕ, ◌≡◌, ◌≤◌, ◌+◌, List, [], ◌∷◌, ◌++◌, Option, Some, None, length}
use Rattle.std.proofs.Common.{refl, sym, ap, subst, arith, ◌∙◌}
use Rattle.std.proofs.lemmas.List.{length-append}
use Rattle.row_state.specs.declared.bound.TheConstants.{PARITY_LOG}
use Rattle.row_state.specs.Versions.{value_of}
use Rattle.row_state.specs.declared.kind.Kinds.{Kinds}
use Rattle.row_state.specs.Start.{AreKinds, AreSomeKinds}
use Rattle.cell_num.specs.declared.finger.Fingers.{Fingers}
use Rattle.bound_log.specs.declared.fault.LogFault.{LogFault}
use Rattle.bound_log.specs.declared.item.LogItem.{LogItem}
use Rattle.bound_log.specs.declared.item.LogItem.TheVariants as item
use Rattle.bound_log.specs.declared.log.Log.{Log}
use Rattle.bound_log.specs.Pieces.{Reader, Tale, begun, tale_of, then_tale}
use Rattle.bound_log.proofs.Tales.{faulted, tale_append, tale_kinds}
use Rattle.log_check.specs.Accepted.{WithKinds}
use Rattle.log_check.specs.Items.{Checked, HasSeen, empty_log, with_columns, with_gaps, with_lemmas}
use Rattle.cell_inputs.specs.Inputs.{Inputs}

-- a log with one item more; its head begins it
abbrev pub with_item : Log → LogItem → Log
with_item log (item.Head version) = empty_log version
with_item log (item.Lemma lemma) = with_lemmas log (lemma ∷ [])
with_item log (item.Gaps gaps) = with_gaps log gaps
with_item log (item.Column column) = with_columns log (column ∷ [])
with_item log _ = log

-- with more items, one after the other
abbrev pub with_items : Log → List LogItem → Log
with_items log [] = log
with_items log (i ∷ items) = with_items (with_item log i) items

-- the checker has seen the log, by the bound of its version
abbrev pub HasSeenLog : Checked → Log → Type 0
HasSeenLog c log = HasSeen (value_of log.version) c log

-- so it is of each log that it has seen
abbrev pub ForSeenLog : Checked → (Log → Type 0) → Type 0
ForSeenLog c Says = (log : Log) → HasSeenLog c log → Says log

-- before the head of a log has come, it counts as one of the first version
abbrev pub no_log : Log
no_log = empty_log PARITY_LOG

-- the second checker has seen what the first one has, and then these items
abbrev pub SeesMore : Checked → List LogItem → Checked → Type 0
SeesMore before items after =
    (log : Log) → HasSeenLog before log → HasSeenLog after (with_items log items)

-- Some bytes brought a reader and a checker from where they were to where they are. After a fault of the text
-- the checker counts for nothing.
pub record AreBehind (from : Reader) (before : Checked) (bytes : List ℕ) (to : Reader) (after : Checked) : Type 0 where
  pub reader : to ≡ (tale_of from bytes).reader
  pub seen : to.fault ≡ None → SeesMore before (tale_of from bytes).items after
  pub fingers : after.fingers ≡ before.fingers
  pub lines : to.number ≤ from.number + length bytes
  pub lemmas : after.lemmas ≤ before.lemmas + length bytes

-- that many bytes more are not too many, for a reader by the kinds of the checker's fingers
pub record HaveRoom (reader : Reader) (checker : Checked) (count : ℕ) : Type 0 where
  pub kinds : AreKinds checker.fingers reader.kinds
  pub some : AreSomeKinds reader.kinds
  pub lines : reader.number + count ≤ 1073741825
  pub lemmas : checker.lemmas + count ≤ 1073741824

-- a reader and a checker of logs for the inputs, before the first byte
pub record AreBegun (inputs : Inputs) (reader : Reader) (checker : Checked) : Type 0 where
  pub log : WithKinds inputs.fingers (λ k. (reader ≡ begun inputs.cell.name k) × HasSeenLog checker no_log)
  pub fingers : checker.fingers ≡ inputs.fingers
  pub lemmas : checker.lemmas ≡ 0

-- what all the bytes of a log say, for these kinds
abbrev pub whole_tale : Inputs → List ℕ → Kinds → Tale
whole_tale inputs bytes k = tale_of (begun inputs.cell.name k) bytes

-- for these kinds, both are after all the bytes of a log
abbrev pub IsBehindAll : Inputs → List ℕ → Reader → Checked → Kinds → Type 0
IsBehindAll inputs bytes reader checker k =
    (reader ≡ (whole_tale inputs bytes k).reader)
    × (reader.fault ≡ None → HasSeenLog checker (with_items no_log (whole_tale inputs bytes k).items))

-- a reader and a checker of logs for the inputs, after all the bytes of a log
pub record AreBehindAll (inputs : Inputs) (bytes : List ℕ) (reader : Reader) (checker : Checked) : Type 0 where
  pub log : WithKinds inputs.fingers (IsBehindAll inputs bytes reader checker)
  pub fingers : checker.fingers ≡ inputs.fingers

-- ---- laws: bytes one part after the other

items_append : (log : Log) (a b : List LogItem) → with_items log (a ++ b) ≡ with_items (with_items log a) b
items_append log [] b = refl
items_append log (i ∷ a) b = items_append (with_item log i) a b

-- where there is no fault now, there was none before
sound_before :
    (from to : Reader) (bytes : List ℕ) → to ≡ (tale_of from bytes).reader → to.fault ≡ None → from.fault ≡ None
sound_before from to bytes is sound = by_fault from.fault refl
  where
    by_fault : (o : Option LogFault) → from.fault ≡ o → from.fault ≡ None
    by_fault None e = e
    by_fault (Some f) e =
        let same : to ≡ from = is ∙ faulted from f bytes e in
        sym (ap (λ (r : Reader). r.fault) same) ∙ sound

pub behind_none : (reader : Reader) (checker : Checked) → AreBehind reader checker [] reader checker
unfolding tale_of
behind_none reader checker = record {
  reader = refl;
  seen = λ sound log seen. seen;
  fingers = refl;
  lines = omega arith;
  lemmas = omega arith;
}

-- what the checker has seen after two parts, from what it has seen after each
seen_more :
    (r s t : Reader) (c d e : Checked) (x y : List ℕ) (whole : Tale)
    → whole ≡ then_tale (tale_of r x) (λ q. tale_of q y) → AreBehind r c x s d → AreBehind s d y t e
    → t.fault ≡ None → SeesMore c whole.items e
seen_more r s t c d e x y whole is first second sound log seen =
    let front : Log = with_items log (tale_of r x).items in
    let before : HasSeenLog d front = first.seen (sound_before s t y second.reader sound) log seen in
    let all : HasSeenLog e (with_items front (tale_of s y).items) = second.seen sound front before in
    let joined : with_items front (tale_of (tale_of r x).reader y).items ≡ with_items log whole.items =
    sym (items_append log (tale_of r x).items (tale_of (tale_of r x).reader y).items)
    ∙ ap (λ (tale : Tale). with_items log tale.items) (sym is) in
    let items : with_items front (tale_of s y).items ≡ with_items log whole.items =
    ap (λ (q : Reader). with_items front (tale_of q y).items) first.reader ∙ joined in
    subst (λ (l : Log). HasSeenLog e l) items all

pub behind_more :
    (r s t : Reader) (c d e : Checked) (x y : List ℕ)
    → AreBehind r c x s d → AreBehind s d y t e → AreBehind r c (x ++ y) t e
behind_more r s t c d e x y first second =
    let whole : tale_of r (x ++ y) ≡ then_tale (tale_of r x) (λ q. tale_of q y) = tale_append r x y in
    record {
      reader = second.reader
          ∙ (ap (λ (q : Reader). (tale_of q y).reader) first.reader ∙ ap (λ (tale : Tale). tale.reader) (sym whole));
      seen = seen_more r s t c d e x y (tale_of r (x ++ y)) whole first second;
      fingers = second.fingers ∙ first.fingers;
      lines = omega (arith, first.lines, second.lines, length-append x y);
      lemmas = omega (arith, first.lemmas, second.lemmas, length-append x y);
    }

pub room_left :
    (r s : Reader) (c d : Checked) (x : List ℕ) (count : ℕ)
    → AreBehind r c x s d → HaveRoom r c (length x + count) → HaveRoom s d count
room_left r s c d x count behind room =
    let same : s.kinds ≡ r.kinds = ap (λ (q : Reader). q.kinds) behind.reader ∙ tale_kinds r x in
    let of : AreKinds c.fingers s.kinds = subst (AreKinds c.fingers) (sym same) room.kinds in
    record {
      kinds = subst (λ (f : Fingers). AreKinds f s.kinds) (sym behind.fingers) of;
      some = subst AreSomeKinds (sym same) room.some;
      lines = omega (arith, behind.lines, room.lines);
      lemmas = omega (arith, behind.lemmas, room.lemmas);
    }
