-- One line of a log after the other, and the pieces that they come in.
use Rattle.std.proofs.Common.{ℕ, ◌≡◌, ◌≢◌, ◌≤◌, ◌<◌, ◌+◌, ◌-◌, ◌==◌, List, [], ◌∷◌, Option, Some, None, Result, Ok, Err, IfOk, length, take, drop, refl, sym, ap, subst, arith, ◌∙◌, inl, inr}
use Rattle.std.proofs.lemmas.List.{take-append-drop}
use Rattle.std.proofs.Math.Seq.{take-add, take-length}
use Rattle.std.proofs.lemmas.Bool.{cases_Bool}
use Rattle.std.proofs.lemmas.List.{length-drop, length-take-le, take_all}
use Rattle.cell_num.specs.declared.list.NoMemory.{NoMemory}
use Rattle.bound_log.specs.declared.fault.LogFault.{LogFault}
use Rattle.bound_log.specs.declared.fault.LogFault.TheVariants as fault
use Rattle.bound_log.specs.declared.item.LogItem.{LogItem}
use Rattle.bound_log.specs.declared.item.LogItem.TheVariants as item
use Rattle.bound_log.specs.declared.item.LogPlace.{LogPlace}
use Rattle.bound_log.specs.declared.item.LogPlace.TheVariants as place
use Rattle.bound_log.specs.declared.log.Log.{Log}
use Rattle.bound_log.specs.declared.said.Said.{Said}
use Rattle.bound_log.specs.Pieces.{Reader, Tale, behind_line, byte_tale, line_bytes, next_tale, tale_of, told, whole_says}
use Rattle.bound_log.proofs.Tales.{faulted, tale_append}
use Rattle.log_check.specs.Items.{Checked}
use Rattle.cell_commands.specs.LogRead.{AreBehind, HasSeenLog, HaveRoom, behind_more, room_left, with_item, with_items}

-- ---- lines are at most as many as bytes

line_number : (r : Reader) (said : Result Said LogFault) → (behind_line r said).number ≤ r.number + 1
line_number r (Ok said) = omega arith
line_number r (Err f) = omega arith

byte_number : (r : Reader) (b : ℕ) → (byte_tale r b).reader.number ≤ r.number + 1
byte_number r b = elim (cases_Bool (b == 10)) [
  | inl feed ↦ rw feed (line_number r (whole_says r r.line))
  | inr other ↦ rw other (omega arith)
]

next_number : (o : Option LogFault) (p : LogPlace) (r : Reader) (b : ℕ) → (next_tale o p r b).reader.number ≤ r.number + 1
next_number (Some f) p r b = omega arith
next_number None place.Behind r b = omega arith
next_number None place.Version r b = byte_number r b
next_number None (place.Cell version) r b = byte_number r b
next_number None place.Lemmas r b = byte_number r b
next_number None place.Columns r b = byte_number r b
next_number None place.End r b = byte_number r b

tale_number : (r : Reader) (bytes : List ℕ) → (tale_of r bytes).reader.number ≤ r.number + length bytes
unfolding tale_of
tale_number r [] = omega arith
tale_number r (b ∷ bytes) =
    let first = (next_tale r.fault r.place r b).reader in
    omega (arith, next_number r.fault r.place r b, tale_number first bytes)

-- ---- one line

told_one : (log : Log) (i : LogItem) → with_items log (told i) ≡ with_item log i
told_one log item.More = refl
told_one log (item.Head version) = refl
told_one log (item.Lemma lemma) = refl
told_one log (item.Gaps gaps) = refl
told_one log (item.Column column) = refl
told_one log item.Open = refl
told_one log item.End = refl

pub line_behind : (r s : Reader) (c d : Checked) (part : List ℕ) (used : ℕ) (i : LogItem) → tale_of r (take used part) ≡ record { items = told i; reader = s } → d.fingers ≡ c.fingers → d.lemmas ≤ c.lemmas + 1 → s.number ≤ r.number + used → 0 < used → used ≤ length part → ((log : Log) → HasSeenLog c log → HasSeenLog d (with_item log i)) → AreBehind r c (take used part) s d
line_behind r s c d part used i tale fingers count number some within add =
    record {
      reader = sym (ap (λ (t : Tale). t.reader) tale);
      seen = λ sound log seen.
          subst (λ (items : List LogItem). HasSeenLog d (with_items log items)) (sym (ap (λ (t : Tale). t.items) tale))
          (subst (λ (l : Log). HasSeenLog d l) (sym (told_one log i)) (add log seen));
      fingers = fingers;
      lines = omega (arith, number, length-take-le used part within);
      lemmas = omega (arith, count, some, length-take-le used part within);
    }

-- a fault, behind which no byte counts
all_behind : (r s : Reader) (c : Checked) (part : List ℕ) (f : LogFault) → (tale_of r (take (line_bytes part) part)).reader ≡ s → s.fault ≡ Some f → AreBehind r c part s c
all_behind r s c part f is told =
    let rest = drop (line_bytes part) part in
    let all : (tale_of r part).reader ≡ s =
    ap (λ (l : List ℕ). (tale_of r l).reader) (sym (take-append-drop (line_bytes part) part))
    ∙ (ap (λ (t : Tale). t.reader) (tale_append r (take (line_bytes part) part) rest)
    ∙ (ap (λ (q : Reader). (tale_of q rest).reader) is ∙ faulted s f rest told)) in
    record {
      reader = sym all;
      seen = λ sound log seen.
          let clash : ◌≡◌ {A = Option LogFault} None (Some f) = sym sound ∙ told in
          absurd cc;
      fingers = refl;
      lines = omega (arith, ap (λ (q : Reader). q.number) all, tale_number r part);
      lemmas = omega arith;
    }

fault_behind : (r s : Reader) (c : Checked) (part : List ℕ) (used : ℕ) (f : LogFault) → used ≡ length part → (tale_of r (take (line_bytes part) part)).reader ≡ s → s.fault ≡ Some f → AreBehind r c (take used part) s c
fault_behind r s c part used f whole is told =
    subst (λ (l : List ℕ). AreBehind r c l s c) (sym (ap (λ (n : ℕ). take n part) whole ∙ take-length part)) (all_behind r s c part f is told)

pub fault_passed : (r s : Reader) (c : Checked) (part : List ℕ) (f : LogFault) (result : Result ℕ NoMemory) → (f ≢ fault.NoMemory → (tale_of r (take (line_bytes part) part)).reader ≡ s) → (f ≢ fault.NoMemory → s.fault ≡ Some f) → IfOk result (λ used. (f ≢ fault.NoMemory) × (used ≡ length part)) → IfOk result (λ used. AreBehind r c (take used part) s c)
fault_passed r s c part f (Err e) is is_told passed = tt
fault_passed r s c part f (Ok used) is is_told (other, whole) = fault_behind r s c part used f whole (is other) (is_told other)

-- ---- one line after the other

-- what `&part[at..]` is
rest_is : (part : List ℕ) (at : ℕ) → take (length part - at) (drop at part) ≡ drop at part
rest_is part at = rw (← length-drop at part) (take-length (drop at part))

pub behind_rest : (r s t : Reader) (c d e : Checked) (part : List ℕ) (at used : ℕ) → AreBehind r c (take at part) s d → AreBehind s d (take used (take (length part - at) (drop at part))) t e → AreBehind r c (take (at + used) part) t e
behind_rest r s t c d e part at used first second =
    subst (λ (l : List ℕ). AreBehind r c l t e) (sym (take-add at used part))
    (behind_more r s t c d e (take at part) (take used (drop at part)) first (subst (λ (l : List ℕ). AreBehind s d (take used l) t e) (rest_is part at) second))

pub behind_whole : (r s : Reader) (c d : Checked) (part : List ℕ) (at : ℕ) → length part ≤ at → AreBehind r c (take at part) s d → AreBehind r c part s d
behind_whole r s c d part at past behind = subst (λ (l : List ℕ). AreBehind r c l s d) (take_all at part past) behind

pub room_rest : (r s : Reader) (c d : Checked) (part : List ℕ) (at : ℕ) → at ≤ length part → AreBehind r c (take at part) s d → HaveRoom r c (length part) → HaveRoom s d (length (take (length part - at) (drop at part)))
room_rest r s c d part at within behind room =
    room_left r s c d (take at part) (length (take (length part - at) (drop at part))) behind
    (record {
      kinds = room.kinds;
      some = room.some;
      lines = omega (arith, room.lines, within, length-take-le at part within, length-drop at part, ap length (rest_is part at));
      lemmas = omega (arith, room.lemmas, within, length-take-le at part within, length-drop at part, ap length (rest_is part at));
    })
