-- The history of a store.
use Rattle.std.specs.Prelude.{ℕ}
use Rattle.logbook.specs.Pages as logbook

-- a store's history: its logbook, and the key of the pen that may write the first page
pub record Book : Type 0 where
  pub pages : logbook.Book
  pub first_pen : ℕ
