-- The reader as a struct that holds the message: what a step answers, and where it leaves the reader.
use Rattle.std.specs.Prelude.{◌≡◌, List, ℕ}
use Rattle.std.specs.Borrow.{Bor}
use Rattle.reading.specs.declared.Cursor.{Cursor}
use Rattle.reading.specs.declared.Reader.{Reader}
use Rattle.reading.specs.declared.Step as step
use Rattle.reading.specs.Reading.{no_shape, cursor, step_of, moved_by}

-- a reader before the first field
abbrev pub reader_of : Bor (List ℕ) → Reader
reader_of message = record { message = message; place = 0; shape = no_shape }

-- where a reader stands
abbrev pub cursor_of : Reader → Cursor
cursor_of r = cursor r.place r.shape

-- the same message, read from c on
abbrev pub moved_to : Reader → Cursor → Reader
moved_to r c = record { message = r.message; place = c.place; shape = c.shape }

pub record ReaderStepped (before after : Reader) (t : step.Step) : Type 0 where
  pub answers : t ≡ step_of before.message.now (cursor_of before)
  pub moves : after ≡ moved_to before (moved_by (cursor_of before) t)
