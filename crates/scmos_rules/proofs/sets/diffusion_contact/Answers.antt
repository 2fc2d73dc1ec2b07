use Rattle.box_geom.specs.declared.layer.Layer.TheVariants.{Contact}
use Rattle.scmos_rules.specs.Layout.{On, Diffusion}
use Rattle.scmos_rules.proofs.Unions.{both_cells, both_inner}
use Rattle.scmos_rules.proofs.sets.diffusion_contact.Goals as goal

pub returns-clause-cells : goal.returns-clause-cells
returns-clause-cells c = both_cells (On Contact c.args.shapes.now.rects) (Diffusion c.args.shapes.now.rects) c.in_ok-contact.contact c.in_ok-diffusion.diffusion c.in_ok-region.region c.in_ok-contact.ensures.cells c.in_ok-diffusion.ensures.cells c.in_ok-region.ensures

pub returns-clause-inner : goal.returns-clause-inner
returns-clause-inner c = both_inner c.in_ok-contact.contact c.in_ok-diffusion.diffusion c.in_ok-region.region c.in_ok-contact.ensures.inner c.in_ok-region.ensures
