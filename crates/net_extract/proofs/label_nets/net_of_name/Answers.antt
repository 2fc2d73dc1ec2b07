use Rattle.std.proofs.Common.{rules, sym}
use Rattle.std.specs.Cmp.Lexicographic.{slice_cmp}
use Rattle.std.specs.Ordering.{nat_cmp}
use Rattle.std.proofs.lemmas.Fn.{always_returns_same}
use Rattle.net_extract.specs.declared.naming.NetLabel.{NetLabel}
use Rattle.net_extract.proofs.ByName.{found_at, not_found}
use Rattle.net_extract.proofs.label_nets.net_of_name.Goals as goal

pub returns-in-Ok : goal.returns-in-Ok
returns-in-Ok c = sym (found_at c.args.labels.now c.requires c.args.name.now c.in-Ok.at c.in-Ok.ensures.bound (c.in-Ok.ensures.position (λ (h : NetLabel). slice_cmp nat_cmp h.name c.args.name.now) (always_returns_same _ _ _ (λ a r g h. search rules))) c.index-labels-at.result)

pub returns-in-Err : goal.returns-in-Err
returns-in-Err c = sym (not_found c.args.labels.now c.requires c.args.name.now c.in-Err.field-0 (c.in-Err.ensures.position (λ (h : NetLabel). slice_cmp nat_cmp h.name c.args.name.now) (always_returns_same _ _ _ (λ a r g h. search rules))))
