-- The rails of a cell that is read have the names of the technology's.
use Rattle.std.proofs.Common.{ℕ, ◌≡◌, ◌++◌, true, List, [], Ok, sym, subst, ◌∙◌}
use Rattle.std.specs.Prelude.{bytes_eq, get_or}
use Rattle.std.proofs.lemmas.Bool.{or_left}
use Rattle.std.proofs.lemmas.List.Folds.{list_any-append}
use Rattle.std.proofs.lemmas.List.Sums.{passes_at_first}
use Rattle.std.proofs.lemmas.Slice.Eq.{bytes_eq-Decides}
use Rattle.cell_draw.specs.Named.{name_of}
use Rattle.cell_num.proofs.Steps.{granted_step}
use Rattle.spice_net.proofs.Sound.{accepted}
use Rattle.spice_net.proofs.SoundNets.{has_distinct, numbered}
use Rattle.spice_net.specs.Chosen.{chosen_in, has_name, lines_in, without_comments}
use Rattle.spice_net.specs.Nets.{named_nets, net_of, nets_of, number_of}
use Rattle.spice_net.specs.Subcircuit.{pins_of, subcircuit, subckt_in, subckt_of, with_rails}
use Rattle.spice_net.specs.Transistors.{Transistor, transistors_of}
use Rattle.spice_net.specs.declared.subckt.Subckt.{Subckt}
use Rattle.tech_file.specs.Technology.{Technology}

-- the number of a name leads to it
name_at : (word : List ℕ) (names : List (List ℕ)) → has_name names word ≡ true → name_of names (net_of names word) ≡ word
name_at word names there = sym ((bytes_eq-Decides word (get_or names (number_of names word) [])).0 (passes_at_first (bytes_eq word) names [] (numbered word names there)))

pin_there : (pins : List (List ℕ)) (ts : List Transistor) (word : List ℕ) → has_name pins word ≡ true → has_name (nets_of pins ts) word ≡ true
pin_there pins ts word there = has_distinct word (pins ++ named_nets ts) ∙ (list_any-append (bytes_eq word) pins (named_nets ts) ∙ or_left (has_name pins word) (has_name (named_nets ts) word) there)

pub record AreRailsOf (tech : Technology) (cell : Subckt) : Type 0 where
  pub vdd : name_of cell.nets cell.pins.vdd ≡ tech.vdd
  pub gnd : name_of cell.nets cell.pins.gnd ≡ tech.gnd

pub rails_named : (bytes name : List ℕ) (tech : Technology) (cell : Subckt) → subcircuit bytes name tech ≡ Ok cell → AreRailsOf tech cell
rails_named bytes name tech cell e =
    let lines = granted_step (lines_in bytes) (subckt_in name tech) cell e in
    let chosen = granted_step (chosen_in name lines.0) _ cell lines.2 in
    let listed = granted_step (pins_of chosen.0.head) _ cell chosen.2 in
    let inside = granted_step (transistors_of tech (without_comments chosen.0.inside)) (λ ts. subckt_of name tech chosen.0.inside (with_rails tech lines.0 listed.0) ts) cell listed.2 in
    let pins = with_rails tech lines.0 listed.0 in
    let ts = inside.0 in
    let (is, same) = accepted name tech chosen.0.inside pins ts cell inside.2 in
    subst (AreRailsOf tech) same
    (record {
      vdd = name_at tech.vdd (nets_of pins ts) (pin_there pins ts tech.vdd is.vdd);
      gnd = name_at tech.gnd (nets_of pins ts) (pin_there pins ts tech.gnd is.gnd);
    })
