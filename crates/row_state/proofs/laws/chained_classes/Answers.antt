use Rattle.row_state.specs.Chained.{chained_class, class_chained, least_is_chained, least_is_least}
use Rattle.row_state.proofs.laws.chained_classes.Goals as goal

pub returns-clause-class : goal.returns-clause-class
returns-clause-class c fs u v = (class_chained fs u v, chained_class fs u v)

pub returns-clause-in_class : goal.returns-clause-in_class
returns-clause-in_class c fs u = least_is_chained fs u

pub returns-clause-least : goal.returns-clause-least
returns-clause-least c fs u v h = least_is_least fs u v h
