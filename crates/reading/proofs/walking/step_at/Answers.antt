-- `step_at` meets its contract: the field, or the refusal. Assumes nothing.
use mathlib.Core.Path.{refl}
use Rattle.reading.proofs.Reading.{stepped_refused, stepped_field}
use Rattle.reading.proofs.walking.step_at.Goals as goal

pub returns-in-Ok : goal.returns-in-Ok
returns-in-Ok c = stepped_field _ _ c.in-Ok.ensures refl c.field_at.ensures

pub returns-in-Err : goal.returns-in-Err
returns-in-Err c = stepped_refused _ _ _ c.in-Err.ensures
