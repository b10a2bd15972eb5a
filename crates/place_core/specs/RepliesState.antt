-- Replies in order, and how many more there is room for.
use Rattle.std.specs.Prelude.{ℕ, List}
use Rattle.op_table.specs.declared.call.Reply.{Reply}

pub record RepliesState : Type 0 where
  pub items : List Reply
  pub spare : ℕ
