-- A read gives the next bytes, and none only if none are left.
use Rattle.std.proofs.Common.{arith, ap, length, length-append, length-drop, ℕ, List, ◌+◌, drop}
use Rattle.road_serve.proofs.ByteParts.{read_next, nothing_left}
use Rattle.road_serve.proofs.memory.MemorySourceSource.read.Goals as goal

pub returns-clause-bytes : goal.returns-clause-bytes
returns-clause-bytes c =
    let p = c.args.self.now.place in
    let n = c.min-count.result in
    let bytes = c.args.self.now.bytes.now in
    let after = c.copy_from_slice.ensures.after in (
      read_next p n bytes c.copy_from_slice.new.self _ after (omega arith),
      λ none some. nothing_left (p + n) bytes (omega (arith, none, some, ap (λ (x : List ℕ). length x) after, length-append c.copy_from_slice.new.self (drop n c.args.piece.now), length-drop n c.args.piece.now)),
    )
