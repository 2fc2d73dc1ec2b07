use Rattle.std.proofs.Common.{◌≡◌, sym, subst}
use Rattle.box_geom.specs.Layers.{rects_on}
use Rattle.box_geom.specs.declared.layer.Layer.TheVariants.{Well, Active, Poly}
use Rattle.net_extract.proofs.Apart.{apart_rects, apart_proper}
use Rattle.net_extract.proofs.layers.Layers.on.Goals as goal

pub returns-in-Well-clause-rects : goal.returns-in-Well-clause-rects
returns-in-Well-clause-rects c = subst (λ w. rects_on w c.as_slice.result.now ≡ rects_on w c.args.self.now) (sym c.in-Well.is) (apart_rects Well c.args.self.now c.self.inside.all c.as_slice.result.now c.self.inside.well c.self.view_is c.as_slice.ensures c.self.invariant.well)

pub returns-in-Well-clause-proper : goal.returns-in-Well-clause-proper
returns-in-Well-clause-proper c = apart_proper Well c.args.self.now c.self.inside.all c.as_slice.result.now c.self.inside.well c.self.view_is c.as_slice.ensures c.self.invariant.well

pub returns-in-Active-clause-rects : goal.returns-in-Active-clause-rects
returns-in-Active-clause-rects c = subst (λ w. rects_on w c.as_slice-in-Active.result.now ≡ rects_on w c.args.self.now) (sym c.in-Active.is) (apart_rects Active c.args.self.now c.self.inside.all c.as_slice-in-Active.result.now c.self.inside.active c.self.view_is c.as_slice-in-Active.ensures c.self.invariant.active)

pub returns-in-Active-clause-proper : goal.returns-in-Active-clause-proper
returns-in-Active-clause-proper c = apart_proper Active c.args.self.now c.self.inside.all c.as_slice-in-Active.result.now c.self.inside.active c.self.view_is c.as_slice-in-Active.ensures c.self.invariant.active

pub returns-in-Poly-clause-rects : goal.returns-in-Poly-clause-rects
returns-in-Poly-clause-rects c = subst (λ w. rects_on w c.as_slice-in-Poly.result.now ≡ rects_on w c.args.self.now) (sym c.in-Poly.is) (apart_rects Poly c.args.self.now c.self.inside.all c.as_slice-in-Poly.result.now c.self.inside.poly c.self.view_is c.as_slice-in-Poly.ensures c.self.invariant.poly)

pub returns-in-Poly-clause-proper : goal.returns-in-Poly-clause-proper
returns-in-Poly-clause-proper c = apart_proper Poly c.args.self.now c.self.inside.all c.as_slice-in-Poly.result.now c.self.inside.poly c.self.view_is c.as_slice-in-Poly.ensures c.self.invariant.poly
