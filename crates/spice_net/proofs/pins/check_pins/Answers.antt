use Rattle.std.proofs.Common.{rules, ◌≡◌, ◌∙◌, [], List, ℕ, sym, refl}
use Rattle.std.specs.Prelude.{find, Option, Some, None}
use Rattle.spice_net.specs.Nets.{named_nets}
use Rattle.spice_net.specs.Reader.{names_of, with_names}
use Rattle.spice_net.specs.Subcircuit.{is_idle, idle_pin}
use Rattle.spice_net.proofs.PinFacts.{idle_among}
use Rattle.spice_net.proofs.pins.check_pins.Goals as goal

pub returns-in_ok-copy-in-Some-clause-fault : goal.returns-in_ok-copy-in-Some-clause-fault
returns-in_ok-copy-in-Some-clause-fault c = λ other.
    let named : names_of c.in_ok-named.named.keys ≡ with_names [] (named_nets c.args.transistors.now) = search rules in
    let found : ◌≡◌ {A = Option (List ℕ)} (Some c.in-Some.pin.now) (find (is_idle c.args.tech.now (names_of c.in_ok-named.named.keys)) (names_of c.args.pins.now.keys)) = search rules in
    let idle : idle_pin c.args.tech.now (names_of c.args.pins.now.keys) c.args.transistors.now ≡ Some c.in-Some.pin.now = sym (found ∙ idle_among c.args.tech.now (names_of c.args.pins.now.keys) (names_of c.in_ok-named.named.keys) c.args.transistors.now named) in
    let copied : c.in_ok-copy-in-Some.field-0 ≡ c.in-Some.pin.now = search rules in
    rw (idle, copied) refl

pub returns-in-None-clause-right : goal.returns-in-None-clause-right
returns-in-None-clause-right c =
    let named : names_of c.in_ok-named.named.keys ≡ with_names [] (named_nets c.args.transistors.now) = search rules in
    let found : ◌≡◌ {A = Option (List ℕ)} None (find (is_idle c.args.tech.now (names_of c.in_ok-named.named.keys)) (names_of c.args.pins.now.keys)) = search rules in
    let idle : idle_pin c.args.tech.now (names_of c.args.pins.now.keys) c.args.transistors.now ≡ None = sym (found ∙ idle_among c.args.tech.now (names_of c.args.pins.now.keys) (names_of c.in_ok-named.named.keys) c.args.transistors.now named) in
    rw idle refl
