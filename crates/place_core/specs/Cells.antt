-- Values and legal histories over cells: of each object its kind and its start.
use Rattle.std.specs.Prelude.{◌≡◌, ℕ, List, Option, Some, None, IsSomeAnd, slice_get}
use Rattle.op_table.specs.declared.kind.Kind.{Kind}
use Rattle.op_table.specs.declared.call.Reply.{Reply}
use Rattle.op_table.specs.declared.call.Reply.TheVariants as reply
use Rattle.op_table.specs.Call.{after_of, answer_of, Permits, CallFits}
use Rattle.place_core.specs.declared.entry.Entry.{Entry}
use Rattle.place_core.specs.Histories.{Each, made_by, value_from}

-- an object without where it lies: its kind, and the value that it begins with
pub record Cell : Type 0 where
  pub kind : Kind
  pub start : ℕ

-- what a call leaves of v where the table's next value is `next`: v itself where the reply is `Failed`
abbrev pub effect_of : Reply → ℕ → ℕ → ℕ
effect_of reply.Unit next v = next
effect_of (reply.Value r) next v = next
effect_of (reply.Bit b) next v = next
effect_of (reply.Done r) next v = next
effect_of (reply.Failed r) next v = v

-- the value that an entry leaves
abbrev pub left_by : Kind → Entry → ℕ → ℕ
left_by kind x v = effect_of x.reply (after_of kind x.call v) v

-- the entries of a caller, in order
abbrev pub entries_by : List Entry → ℕ → List Entry
entries_by H c = made_by (λ (x : Entry). x.caller) H c

abbrev pub value_in : Option Cell → List Entry → ℕ → ℕ
value_in None H o = 0
value_in (Some cell) H o = value_from (λ (x : Entry). x.object) (left_by cell.kind) o cell.start H

-- the value of object o after a history
abbrev pub value_of : List Cell → List Entry → ℕ → ℕ
value_of cells H o = value_in (slice_get cells o) H o

-- the entry may come after the history: its object is there, its call fits, and its reply is permitted
abbrev pub IsLawful : List Cell → List Entry → Entry → Type 0
IsLawful cells G x = IsSomeAnd (slice_get cells x.object) (λ cell.
    let v = value_of cells G x.object in CallFits cell.kind x.call × Permits cell.kind x.call v x.reply (left_by cell.kind x v))

-- each entry may come after those before it
abbrev pub IsLegal : List Cell → List Entry → Type 0
IsLegal cells H = Each (IsLawful cells) H

-- the reply is the table's, so a weak exchange didn't fail spuriously
abbrev pub HasTableReply : List Cell → List Entry → Entry → Type 0
HasTableReply cells G x = IsSomeAnd (slice_get cells x.object) (λ cell. x.reply ≡ answer_of cell.kind x.call (value_of cells G x.object))
