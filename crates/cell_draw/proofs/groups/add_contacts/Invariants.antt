use Rattle.std.proofs.Common.{◌≡◌, ◌++◌, drop, flat_map}
use Rattle.cell_draw.specs.Shapes.{contact_shapes}
use Rattle.cell_draw.proofs.groups.add_contacts.Given as goal

abbrev pub invariant-loop-contact : goal.invariant-loop-contact
invariant-loop-contact l = l.out ++ flat_map (contact_shapes l.frame) (drop l.contact-index l.contacts) ≡ l.fn.out ++ flat_map (contact_shapes l.frame) l.contacts
