-- What holds of every subcircuit that is read.
use Rattle.std.proofs.Common.{ℕ, suc, ◌≡◌, ◌≢◌, ◌<◌, ◌≤◌, ◌==◌, ◌&&◌, not, Bool, true, false, cond, List, [], ◌∷◌, ◌++◌, length, get_or, map, drop, refl, sym, subst, ap, ◌∙◌, inl, inr, ◌⊎◌, arith}
use Rattle.std.specs.Prelude.{All, Any, nat_le, bytes_eq, Option, Some, None, Result, Ok, find}
use Rattle.std.specs.List.{list_all}
use Rattle.std.proofs.lemmas.List.{length-map}
use Rattle.std.proofs.lemmas.Bool.{cases_Bool, false≢true, and_parts, and_cases, or_cases, or_parts, or_left, or_right, not-true, not-false, leb-true, eqb-true}
use Rattle.std.proofs.lemmas.List.Elements.{All-cons, All-map, All-nil, All-weaker}
use Rattle.std.proofs.lemmas.List.Folds.{list_any-append}
use Rattle.std.proofs.lemmas.Slice.Eq.{bytes_eq-Decides}
use Rattle.cell_num.specs.declared.net.NetNo.{NetNo}
use Rattle.cell_num.specs.declared.net.Pins.{Pins}
use Rattle.cell_num.specs.declared.finger.Row.{Row}
use Rattle.cell_num.specs.declared.finger.Row.TheVariants.{P, N}
use Rattle.cell_num.specs.Pins.{IsRail, ArePins}
use Rattle.cell_num.specs.Names.{is_name}
use Rattle.spice_text.specs.declared.logical.Line.{Line}
use Rattle.tech_file.specs.Technology.{Technology, IsTechnology}
use Rattle.spice_net.specs.declared.fault.What.TheVariants as what
use Rattle.spice_net.specs.declared.fault.SpiceFault.{SpiceFault}
use Rattle.spice_net.specs.declared.fault.SpiceFault.TheVariants as fault
use Rattle.spice_net.specs.declared.subckt.Subckt.{Subckt}
use Rattle.spice_net.specs.Transistors.{Transistor}
use Rattle.spice_net.specs.Chosen.{has_name, is_global, chosen_in, without_comments, lines_in}
use Rattle.spice_net.specs.Transistors.{is_rail, other_rail, transistors_of}
use Rattle.spice_net.specs.Directions.{direction_of}
use Rattle.spice_net.specs.Nets.{distinct, named_nets, nets_of, number_of, net_of, device_of, with_copies}
use Rattle.cell_num.specs.Steps.{require}
use Rattle.spice_net.specs.Subcircuit.{pins_of, with_rail, with_rails, idle_pin, none_idle, few_enough, subckt_with, subckt_of, subckt_in, subcircuit}
use Rattle.spice_net.specs.Subckts.{far_rail, IsDevice, Joins, IsSubckt}
use Rattle.spice_net.proofs.NetFacts.{one_name, nets_differ}
use Rattle.spice_net.proofs.SoundNets.{has_distinct, has_itself, numbered, same_numbered, number_at, first_numbered, distinct_longer, distinct_push}
use Rattle.cell_num.proofs.Steps.{granted_step, granted_require}
use Rattle.spice_net.proofs.SoundLines.{IsRight, all_right}
use Rattle.spice_net.proofs.Copies.{all_copies, any_copies, copies_no_fewer}

-- ---- the pins

lines_pins : (line : Line) (pins : List (List ℕ)) → pins_of line ≡ Ok pins → length pins ≤ length (distinct pins)
lines_pins line pins e =
    let step = granted_require (list_all is_name (drop 2 line.words) && length (distinct (drop 2 line.words)) == length (drop 2 line.words)) (fault.Fields line.number) (λ _. Ok (drop 2 line.words)) pins e in
    let whole = (and_parts (list_all is_name (drop 2 line.words)) (length (distinct (drop 2 line.words)) == length (drop 2 line.words)) step.0).1 in
    subst (λ (ns : List (List ℕ)). length ns ≤ length (distinct ns)) (oks_are (drop 2 line.words) pins step.1) (omega (arith, eqb-true (length (distinct (drop 2 line.words))) (length (drop 2 line.words)) whole))
  where
    oks_are : (ps qs : List (List ℕ)) → ◌≡◌ {A = Result (List (List ℕ)) SpiceFault} (Ok ps) (Ok qs) → ps ≡ qs
    oks_are ps qs e = cc

pin_rail : (lines : List Line) (rail : List ℕ) (pins : List (List ℕ)) → length pins ≤ length (distinct pins) → length (with_rail lines rail pins) ≤ length (distinct (with_rail lines rail pins))
pin_rail lines rail pins all = elim (cases_Bool (not (has_name pins rail) && is_global lines rail)) [
  | inl global ↦ rw global (distinct_push pins rail all (not-true (has_name pins rail) (and_parts (not (has_name pins rail)) (is_global lines rail) global).0))
  | inr stays ↦ rw stays all
]

-- ---- what is asked of the whole

pub record IsAccepted (tech : Technology) (pins : List (List ℕ)) (ts : List Transistor) : Type 0 where
  pub vdd : has_name pins tech.vdd ≡ true
  pub gnd : has_name pins tech.gnd ≡ true
  pub none_idle : idle_pin tech pins ts ≡ None
  pub some : 1 ≤ length ts
  pub few_pins : length pins ≤ 64
  pub few_devices : length (with_copies ts) ≤ 128
  pub few_nets : length (nets_of pins ts) ≤ 256

required : (b : Bool) (g : SpiceFault) (u : Unit {0}) → require b g ≡ Ok u → b ≡ true
required true g u e = refl
required false g u e = absurd cc

none_there : (o : Option (List ℕ)) (u : Unit {0}) → none_idle o ≡ Ok u → o ≡ None
none_there None u e = refl
none_there (Some pin) u e = absurd cc

some_there : (ts : List Transistor) → not (length ts == 0) ≡ true → 1 ≤ length ts
some_there [] e = absurd cc
some_there (t ∷ ts) e = omega arith

pub accepted : (name : List ℕ) (tech : Technology) (lines : List Line) (pins : List (List ℕ)) (ts : List Transistor) (cell : Subckt) → subckt_of name tech lines pins ts ≡ Ok cell → IsAccepted tech pins ts × (subckt_with name tech lines pins ts ≡ cell)
accepted name tech lines pins ts cell e =
    let rails = granted_require (has_name pins tech.vdd && has_name pins tech.gnd) fault.NoRail _ cell e in
    let idle = granted_step (none_idle (idle_pin tech pins ts)) _ cell rails.1 in
    let some = granted_require (not (length ts == 0)) fault.Empty _ cell idle.2 in
    let few = granted_step (few_enough pins ts) _ cell some.1 in
    let few_pins = granted_require (nat_le (length pins) 64) (fault.TooMany what.Pins (length pins)) _ few.0 few.1 in
    let few_devices = granted_require (nat_le (length (with_copies ts)) 128) (fault.TooMany what.Devices (length (with_copies ts))) _ few.0 few_pins.1 in
    let both = and_parts (has_name pins tech.vdd) (has_name pins tech.gnd) rails.0 in (
      record {
        vdd = both.0;
        gnd = both.1;
        none_idle = none_there (idle_pin tech pins ts) idle.0 idle.1;
        some = some_there ts some.0;
        few_pins = leb-true (length pins) 64 few_pins.0;
        few_devices = leb-true (length (with_copies ts)) 128 few_devices.0;
        few_nets = leb-true (length (nets_of pins ts)) 256 (required (nat_le (length (nets_of pins ts)) 256) (fault.TooMany what.Nets (length (nets_of pins ts))) few.0 few_devices.1);
      },
      ok_is (subckt_with name tech lines pins ts) cell few.2,
    )
  where
    ok_is : (a b : Subckt) → ◌≡◌ {A = Result Subckt SpiceFault} (Ok a) (Ok b) → a ≡ b
    ok_is a b e = cc

-- ---- names among the nets

pin_named : (pins : List (List ℕ)) (ts : List Transistor) (word : List ℕ) → has_name pins word ≡ true → has_name (nets_of pins ts) word ≡ true
pin_named pins ts word e = has_distinct word (pins ++ named_nets ts) ∙ (list_any-append (bytes_eq word) pins (named_nets ts) ∙ or_left (has_name pins word) (has_name (named_nets ts) word) e)

used_named : (pins : List (List ℕ)) (ts : List Transistor) (word : List ℕ) → has_name (named_nets ts) word ≡ true → has_name (nets_of pins ts) word ≡ true
used_named pins ts word e = has_distinct word (pins ++ named_nets ts) ∙ (list_any-append (bytes_eq word) pins (named_nets ts) ∙ or_right (has_name pins word) (has_name (named_nets ts) word) e)

by_whom : (pins : List (List ℕ)) (ts : List Transistor) (word : List ℕ) → has_name (nets_of pins ts) word ≡ true → (has_name pins word ≡ true) ⊎ (has_name (named_nets ts) word ≡ true)
by_whom pins ts word e = or_cases (has_name pins word) (has_name (named_nets ts) word) (sym (list_any-append (bytes_eq word) pins (named_nets ts)) ∙ (sym (has_distinct word (pins ++ named_nets ts)) ∙ e))

-- ---- devices

abbrev net_at : ℕ → NetNo
net_at n = record { 0 = n }

-- a net is told by its name
apart : (nets : List (List ℕ)) (a b : List ℕ) → has_name nets a ≡ true → has_name nets b ≡ true → bytes_eq a b ≡ false → net_of nets a ≢ net_of nets b
apart nets a b has_a has_b differ same = false≢true (sym differ ∙ (bytes_eq-Decides a b).1 (same_numbered a b nets has_a has_b (ap (λ (n : NetNo). n.0) same)))

-- all that a transistor names is among the nets, and so are the rails
record AreNamed (nets : List (List ℕ)) (tech : Technology) (t : Transistor) : Type 0 where
  drain : has_name nets t.drain ≡ true
  gate : has_name nets t.gate ≡ true
  source : has_name nets t.source ≡ true
  vdd : has_name nets tech.vdd ≡ true
  gnd : has_name nets tech.gnd ≡ true

rail_named : (nets : List (List ℕ)) (tech : Technology) (t : Transistor) (row : Row) → AreNamed nets tech t → has_name nets (other_rail tech row) ≡ true
rail_named nets tech t P named = named.gnd
rail_named nets tech t N named = named.vdd

abbrev rails_of : List (List ℕ) → Technology → ℕ → Pins
rails_of nets tech count = record { pins = count; vdd = net_of nets tech.vdd; gnd = net_of nets tech.gnd }

other_is_far : (nets : List (List ℕ)) (tech : Technology) (count : ℕ) (row : Row) → far_rail (rails_of nets tech count) row ≡ net_of nets (other_rail tech row)
other_is_far nets tech count P = refl
other_is_far nets tech count N = refl

is_device : (nets : List (List ℕ)) (tech : Technology) (count : ℕ) (t : Transistor) → IsRight tech t → AreNamed nets tech t → IsDevice (length nets) (rails_of nets tech count) (device_of nets t)
is_device nets tech count t right named =
    let rails = or_parts (bytes_eq t.gate tech.vdd) (bytes_eq t.gate tech.gnd) right.gate in
    record {
      drain = numbered t.drain nets named.drain;
      gate = numbered t.gate nets named.gate;
      source = numbered t.source nets named.source;
      least = right.least;
      most = right.most;
      some_fingers = right.fingers.0;
      few_fingers = right.fingers.1;
      wide_enough = right.wide_enough;
      gate_no_rail = no_rail rails.0 rails.1;
      drain_allowed = λ same. apart nets t.drain (other_rail tech t.row) named.drain (rail_named nets tech t t.row named) right.drain (same ∙ other_is_far nets tech count t.row);
      source_allowed = λ same. apart nets t.source (other_rail tech t.row) named.source (rail_named nets tech t t.row named) right.source (same ∙ other_is_far nets tech count t.row);
    }
  where
    no_rail : bytes_eq t.gate tech.vdd ≡ false → bytes_eq t.gate tech.gnd ≡ false → IsRail (rails_of nets tech count) (net_of nets t.gate) → ⊥
    no_rail not_vdd not_gnd (inl vdd) = apart nets t.gate tech.vdd named.gate named.vdd not_vdd vdd
    no_rail not_vdd not_gnd (inr gnd) = apart nets t.gate tech.gnd named.gate named.gnd not_gnd gnd

-- names that are all among the nets
AllAmong : List (List ℕ) → List (List ℕ) → Type 0
AllAmong nets names = (word : List ℕ) → has_name names word ≡ true → has_name nets word ≡ true

named_behind : (nets : List (List ℕ)) (t : Transistor) (ts : List Transistor) → AllAmong nets (named_nets (t ∷ ts)) → AllAmong nets (named_nets ts)
unfolding AllAmong
named_behind nets t ts all = λ word e. all word (or_right (bytes_eq word t.drain) (has_name (t.gate ∷ t.source ∷ named_nets ts) word) (or_right (bytes_eq word t.gate) (has_name (t.source ∷ named_nets ts) word) (or_right (bytes_eq word t.source) (has_name (named_nets ts) word) e)))

first_named : (nets : List (List ℕ)) (tech : Technology) (t : Transistor) (ts : List Transistor) → AllAmong nets (named_nets (t ∷ ts)) → has_name nets tech.vdd ≡ true → has_name nets tech.gnd ≡ true → AreNamed nets tech t
unfolding AllAmong
first_named nets tech t ts all vdd gnd = record {
  drain = all t.drain (or_left (bytes_eq t.drain t.drain) (has_name (t.gate ∷ t.source ∷ named_nets ts) t.drain) (one_name t.drain));
  gate = all t.gate (or_right (bytes_eq t.gate t.drain) (has_name (t.gate ∷ t.source ∷ named_nets ts) t.gate) (or_left (bytes_eq t.gate t.gate) (has_name (t.source ∷ named_nets ts) t.gate) (one_name t.gate)));
  source = all t.source (or_right (bytes_eq t.source t.drain) (has_name (t.gate ∷ t.source ∷ named_nets ts) t.source) (or_right (bytes_eq t.source t.gate) (has_name (t.source ∷ named_nets ts) t.source) (or_left (bytes_eq t.source t.source) (has_name (named_nets ts) t.source) (one_name t.source))));
  vdd = vdd;
  gnd = gnd;
}

all_named : (nets : List (List ℕ)) (tech : Technology) (ts : List Transistor) → AllAmong nets (named_nets ts) → has_name nets tech.vdd ≡ true → has_name nets tech.gnd ≡ true → All (AreNamed nets tech) ts
all_named nets tech [] all vdd gnd = All-nil (AreNamed nets tech)
all_named nets tech (t ∷ ts) all vdd gnd = All-cons (AreNamed nets tech) t ts (first_named nets tech t ts all vdd gnd) (all_named nets tech ts (named_behind nets t ts all) vdd gnd)

all_among : (pins : List (List ℕ)) (ts : List Transistor) → AllAmong (nets_of pins ts) (named_nets ts)
unfolding AllAmong
all_among pins ts = λ word e. used_named pins ts word e

are_devices : (nets : List (List ℕ)) (tech : Technology) (count : ℕ) (ts : List Transistor) → All (IsRight tech) ts → All (AreNamed nets tech) ts → All (IsDevice (length nets) (rails_of nets tech count)) (map (device_of nets) ts)
are_devices nets tech count ts right named = All-map (IsDevice (length nets) (rails_of nets tech count)) (device_of nets) ts (λ k d lt. is_device nets tech count (get_or ts k d) (right k d lt) (named k d lt))

-- ---- each net other than the rails is met

any_first : {X : Type 0} (Q : X → Type 0) (x : X) (xs : List X) → Q x → Any Q (x ∷ xs)
any_first Q x xs q = (0, x, omega arith, refl, q)

any_later : {X : Type 0} (Q : X → Type 0) (x : X) (xs : List X) → Any Q xs → Any Q (x ∷ xs)
any_later Q x xs (k, y, lt, is, q) = (suc k, y, omega (arith, lt), is, q)

net_is : (nets : List (List ℕ)) (word name : List ℕ) (net : NetNo) → bytes_eq word name ≡ true → number_of nets word ≡ net.0 → net_of nets name ≡ net
net_is nets word name net same numbered = ap (λ (w : List ℕ). net_of nets w) (sym ((bytes_eq-Decides word name).0 same)) ∙ ap net_at numbered

joined : (nets : List (List ℕ)) (word : List ℕ) (net : NetNo) (ts : List Transistor) → number_of nets word ≡ net.0 → has_name (named_nets ts) word ≡ true → Any (Joins net) (map (device_of nets) ts)
joined nets word net [] numbered e = absurd cc
joined nets word net (t ∷ ts) numbered e = elim (or_cases (bytes_eq word t.drain) (has_name (t.gate ∷ t.source ∷ named_nets ts) word) e) [
  | inl drain ↦ any_first (Joins net) (device_of nets t) (map (device_of nets) ts) (inr (inl (net_is nets word t.drain net drain numbered)))
  | inr e1 ↦ elim (or_cases (bytes_eq word t.gate) (has_name (t.source ∷ named_nets ts) word) e1) [
    | inl gate ↦ any_first (Joins net) (device_of nets t) (map (device_of nets) ts) (inl (net_is nets word t.gate net gate numbered))
    | inr e2 ↦ elim (or_cases (bytes_eq word t.source) (has_name (named_nets ts) word) e2) [
      | inl source ↦ any_first (Joins net) (device_of nets t) (map (device_of nets) ts) (inr (inr (net_is nets word t.source net source numbered)))
      | inr e3 ↦ any_later (Joins net) (device_of nets t) (map (device_of nets) ts) (joined nets word net ts numbered e3)
    ]
  ]
]

-- none of the names passes
none_found : (test : List ℕ → Bool) (names : List (List ℕ)) (word : List ℕ) → find test names ≡ None → has_name names word ≡ true → test word ≡ false
none_found test [] word none e = absurd cc
none_found test (name ∷ names) word none e = elim (cases_Bool (test name)) [
  | inl passes ↦ absurd (not_both (sym (ap (λ (b : Bool). cond b (Some name) (find test names)) passes) ∙ none))
  | inr fails ↦ elim (or_cases (bytes_eq word name) (has_name names word) e) [
    | inl same ↦ ap (λ (w : List ℕ). test w) ((bytes_eq-Decides word name).0 same) ∙ fails
    | inr there ↦ none_found test names word (sym (ap (λ (b : Bool). cond b (Some name) (find test names)) fails) ∙ none) there
  ]
]
  where
    not_both : ◌≡◌ {A = Option (List ℕ)} (Some name) None → ⊥
    not_both e = absurd cc

-- a net is a rail or named by a transistor
rail_or_used : (tech : Technology) (pins : List (List ℕ)) (ts : List Transistor) (word : List ℕ) → idle_pin tech pins ts ≡ None → has_name (nets_of pins ts) word ≡ true → (is_rail tech word ≡ true) ⊎ (has_name (named_nets ts) word ≡ true)
rail_or_used tech pins ts word none e = elim (by_whom pins ts word e) [
  | inr used ↦ inr used
  | inl pin ↦ elim (and_cases (not (is_rail tech word)) (not (has_name (named_nets ts) word)) (none_found (λ pin. not (is_rail tech pin) && not (has_name (named_nets ts) pin)) pins word none pin)) [
    | inl rail ↦ inl (not-false (is_rail tech word) rail)
    | inr used ↦ inr (not-false (has_name (named_nets ts) word) used)
  ]
]

is_rail_net : (tech : Technology) (nets : List (List ℕ)) (count : ℕ) (word : List ℕ) (net : NetNo) → number_of nets word ≡ net.0 → is_rail tech word ≡ true → IsRail (rails_of nets tech count) net
is_rail_net tech nets count word net numbered e = elim (or_cases (bytes_eq word tech.vdd) (bytes_eq word tech.gnd) e) [
  | inl vdd ↦ inl (sym (net_is nets word tech.vdd net vdd numbered))
  | inr gnd ↦ inr (sym (net_is nets word tech.gnd net gnd numbered))
]

met_by_name : (tech : Technology) (pins : List (List ℕ)) (ts : List Transistor) (count : ℕ) (word : List ℕ) (net : NetNo) → idle_pin tech pins ts ≡ None → has_name (nets_of pins ts) word ≡ true → number_of (nets_of pins ts) word ≡ net.0 → (IsRail (rails_of (nets_of pins ts) tech count) net → ⊥) → Any (Joins net) (map (device_of (nets_of pins ts)) ts)
met_by_name tech pins ts count word net none named numbered no_rail = elim (rail_or_used tech pins ts word none named) [
  | inl rail ↦ absurd (no_rail (is_rail_net tech (nets_of pins ts) count word net numbered rail))
  | inr used ↦ joined (nets_of pins ts) word net ts numbered used
]

is_met : (tech : Technology) (pins : List (List ℕ)) (ts : List Transistor) (count : ℕ) (net : NetNo) → idle_pin tech pins ts ≡ None → net.0 < length (nets_of pins ts) → (IsRail (rails_of (nets_of pins ts) tech count) net → ⊥) → Any (Joins net) (map (device_of (nets_of pins ts)) ts)
is_met tech pins ts count net none lt no_rail = met_by_name tech pins ts count (get_or (nets_of pins ts) net.0 []) net none (has_itself (nets_of pins ts) net.0 lt) (number_at (nets_of pins ts) net.0 (nets_differ pins ts (nets_of pins ts) refl) lt) no_rail

-- ---- the whole

some_copies : (tech : Technology) (ts : List Transistor) → All (IsRight tech) ts → All (λ (t : Transistor). 1 ≤ t.copies) ts
some_copies tech ts right = All-weaker (IsRight tech) (λ (t : Transistor). 1 ≤ t.copies) (λ t h. h.copies.0) ts right

sound_with : (name : List ℕ) (tech : Technology) (lines : List Line) (pins : List (List ℕ)) (ts : List Transistor) → IsAccepted tech pins ts → All (IsRight tech) ts → IsSubckt (subckt_with name tech lines pins ts)
sound_with name tech lines pins ts ok right = record {
  few_nets = ok.few_nets;
  names_differ = nets_differ pins ts (nets_of pins ts) refl;
  devices = are_devices (nets_of pins ts) tech (length pins) (with_copies ts) (all_copies (IsRight tech) ts right) (all_copies (AreNamed (nets_of pins ts) tech) ts (all_named (nets_of pins ts) tech ts (all_among pins ts) (pin_named pins ts tech.vdd ok.vdd) (pin_named pins ts tech.gnd ok.gnd)));
  met = λ net lt no_rail. any_copies (Joins net) (device_of (nets_of pins ts)) ts (some_copies tech ts right) (is_met tech pins ts (length pins) net ok.none_idle lt no_rail);
}

-- each transistor of the lines has a copy
some_with : (name : List ℕ) (tech : Technology) (lines : List Line) (pins : List (List ℕ)) (ts : List Transistor) → IsAccepted tech pins ts → All (IsRight tech) ts → 1 ≤ length (subckt_with name tech lines pins ts).devices
some_with name tech lines pins ts ok right =
    omega (arith, ok.some, copies_no_fewer ts (some_copies tech ts right), length-map (with_copies ts) (device_of (nets_of pins ts)))

pins_with : (name : List ℕ) (tech : Technology) (lines : List Line) (pins : List (List ℕ)) (ts : List Transistor) → IsTechnology tech → IsAccepted tech pins ts → length pins ≤ length (distinct pins) → ArePins (length (subckt_with name tech lines pins ts).nets) (subckt_with name tech lines pins ts).pins
pins_with name tech lines pins ts technology ok all = record {
  named = omega (arith, all, distinct_longer pins (named_nets ts));
  vdd = first_numbered tech.vdd pins (named_nets ts) ok.vdd;
  gnd = first_numbered tech.gnd pins (named_nets ts) ok.gnd;
  differ = λ same. technology.rails_differ (same_numbered tech.vdd tech.gnd (nets_of pins ts) (pin_named pins ts tech.vdd ok.vdd) (pin_named pins ts tech.gnd ok.gnd) (ap (λ (n : NetNo). n.0) same));
}

-- what the steps before the last give
record IsRead (name : List ℕ) (tech : Technology) (cell : Subckt) (lines : List Line) (pins : List (List ℕ)) (ts : List Transistor) : Type 0 where
  pins_whole : length pins ≤ length (distinct pins)
  right : All (IsRight tech) ts
  accepted : IsAccepted tech pins ts
  made : subckt_with name tech lines pins ts ≡ cell

is_read : (name : List ℕ) (tech : Technology) (lines : List Line) (cell : Subckt) → subckt_in name tech lines ≡ Ok cell → (inside : List Line) × (pins : List (List ℕ)) × (ts : List Transistor) × IsRead name tech cell inside pins ts
is_read name tech lines cell e =
    let chosen = granted_step (chosen_in name lines) _ cell e in
    let listed = granted_step (pins_of chosen.0.head) _ cell chosen.2 in
    let inside = granted_step (transistors_of tech (without_comments chosen.0.inside)) (λ ts. subckt_of name tech chosen.0.inside (with_rails tech lines listed.0) ts) cell listed.2 in
    let whole = accepted name tech chosen.0.inside (with_rails tech lines listed.0) inside.0 cell inside.2 in (
      chosen.0.inside,
      with_rails tech lines listed.0,
      inside.0,
      record {
        pins_whole = pin_rail lines tech.gnd (with_rail lines tech.vdd listed.0) (pin_rail lines tech.vdd listed.0 (lines_pins chosen.0.head listed.0 listed.1));
        right = all_right tech (without_comments chosen.0.inside) inside.0 inside.1;
        accepted = whole.0;
        made = whole.1;
      },
    )

pub sound : (name : List ℕ) (tech : Technology) (lines : List Line) (cell : Subckt) → IsTechnology tech → subckt_in name tech lines ≡ Ok cell → IsSubckt cell
sound name tech lines cell technology e =
    let read = is_read name tech lines cell e in
    subst (λ (c : Subckt). IsSubckt c) read.3.made (sound_with name tech read.0 read.1 read.2 read.3.accepted read.3.right)

pub some_devices : (name : List ℕ) (tech : Technology) (lines : List Line) (cell : Subckt) → subckt_in name tech lines ≡ Ok cell → 1 ≤ length cell.devices
some_devices name tech lines cell e =
    let read = is_read name tech lines cell e in
    subst (λ (c : Subckt). 1 ≤ length c.devices) read.3.made (some_with name tech read.0 read.1 read.2 read.3.accepted read.3.right)

pub pins : (name : List ℕ) (tech : Technology) (lines : List Line) (cell : Subckt) → IsTechnology tech → subckt_in name tech lines ≡ Ok cell → ArePins (length cell.nets) cell.pins
pins name tech lines cell technology e =
    let read = is_read name tech lines cell e in
    subst (λ (c : Subckt). ArePins (length c.nets) c.pins) read.3.made (pins_with name tech read.0 read.1 read.2 technology read.3.accepted read.3.pins_whole)

pub few_pins : (name : List ℕ) (tech : Technology) (lines : List Line) (cell : Subckt) → subckt_in name tech lines ≡ Ok cell → cell.pins.pins ≤ 64
few_pins name tech lines cell e =
    let read = is_read name tech lines cell e in
    subst (λ (c : Subckt). c.pins.pins ≤ 64) read.3.made read.3.accepted.few_pins

pub few_devices : (name : List ℕ) (tech : Technology) (lines : List Line) (cell : Subckt) → subckt_in name tech lines ≡ Ok cell → length cell.devices ≤ 128
few_devices name tech lines cell e =
    let read = is_read name tech lines cell e in
    subst (λ (c : Subckt). length c.devices ≤ 128) read.3.made (omega (arith, read.3.accepted.few_devices, length-map (with_copies read.2) (device_of (nets_of read.1 read.2))))

-- each pin has a direction
pub all_directed : (name : List ℕ) (tech : Technology) (lines : List Line) (cell : Subckt) → subckt_in name tech lines ≡ Ok cell → length cell.directions ≡ cell.pins.pins
all_directed name tech lines cell e =
    let read = is_read name tech lines cell e in
    subst (λ (c : Subckt). length c.directions ≡ c.pins.pins) read.3.made (length-map read.1 (direction_of tech read.0 read.2))
