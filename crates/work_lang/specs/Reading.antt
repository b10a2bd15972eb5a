-- Reading a workload line by line, up to the first fault: the table of places of faults.
-- In each definition the causes stand in the order in which they are looked at.
use Rattle.std.specs.Prelude.{ℕ, ◌≡◌, ◌+◌, Bool, true, false, not, ◌&&◌, ◌||◌, ◌==◌, List, [], ◌∷◌, ◌++◌, length, nat_le, nat_lt, slice_index, slice_get, Option, Some, None, Result, Ok, Err, codes, if◌then◌else◌}
use Rattle.std.specs.List.{list_all, sum_by}
use Rattle.std.specs.Str.{bytes_eq}
use Rattle.std.specs.Option.{is_some}
use Rattle.line_words.specs.Text.{words_of, lines_of}
use Rattle.line_words.specs.Cursor.{Cursor, at_end}
use Rattle.line_words.specs.Steps.{◌>>=◌}
use Rattle.op_table.specs.CallTests.{is_exchange}
use Rattle.op_table.specs.declared.kind.Kind.{Kind}
use Rattle.op_table.specs.declared.kind.Width.TheVariants.{W1}
use Rattle.op_table.specs.declared.kind.Class.TheVariants as class
use Rattle.op_table.specs.declared.call.Call.{Call}
use Rattle.op_table.specs.declared.words.Operation.{Operation}
use Rattle.op_table.specs.declared.order.Order.{Order}
use Rattle.op_table.specs.Value.{parsed_value}
use Rattle.op_table.specs.Words.{kind_of_word, operation_of_word, has_operation}
use Rattle.op_table.specs.Orders.{order_of_word, order_fits}
use Rattle.target_desc.specs.declared.target.Target.{Target}
use Rattle.target_desc.specs.declared.reading.TargetFault.{TargetFault}
use Rattle.target_desc.specs.declared.reading.TargetFault.TheVariants as wrong
use Rattle.target_desc.specs.Reading.{target_at}
use Rattle.place_core.specs.declared.name.Declared.{Declared}
use Rattle.place_core.specs.declared.script.Line.{Line}
use Rattle.place_core.specs.declared.script.Piece.{Piece}
use Rattle.place_core.specs.declared.script.Piece.TheVariants.{One, Block}
use Rattle.place_core.specs.Name.{name_of}
use Rattle.work_lang.specs.declared.fault.Cause.{Cause}
use Rattle.work_lang.specs.declared.fault.Cause.TheVariants as causes
use Rattle.work_lang.specs.declared.fault.Slip.{Slip}
use Rattle.work_lang.specs.declared.fault.LineFault.{LineFault}
use Rattle.work_lang.specs.declared.fault.LineFault.TheVariants as faults
use Rattle.work_lang.specs.declared.fault.WorkFault.{WorkFault}
use Rattle.work_lang.specs.declared.fault.WorkFault.TheVariants as texts
use Rattle.work_lang.specs.declared.item.Item.{Item}
use Rattle.work_lang.specs.declared.item.OpenBlock.{OpenBlock}
use Rattle.work_lang.specs.declared.item.Item.TheVariants as items
use Rattle.work_lang.specs.declared.item.Awaits.{Awaits}
use Rattle.work_lang.specs.declared.item.Awaits.TheVariants as awaits
use Rattle.work_lang.specs.declared.orders.Orders.{Orders}
use Rattle.work_lang.specs.Operands.{Form, Alone, WithValue, WithPosition, WithValues, form_of, position_kind, is_later}
use Rattle.work_lang.specs.CallOrders.{left_out}
use Rattle.work_lang.specs.declared.limits.Limits.{Limits}
use Rattle.work_lang.specs.Limits.{most_bytes, most_threads, limits_of}
use Rattle.work_lang.specs.Slips.{slip, word_at, end_at, need_at, check_at, value_at}
use Rattle.work_lang.specs.Workload.{Workload, object_of, lines_written, calls_made}

-- ---- lines, each from its first word w on

-- the version that a word names
abbrev pub version_of_word : List ℕ → Option ℕ
version_of_word w = if bytes_eq w (codes "1") then Some 1 else if bytes_eq w (codes "2") then Some 2 else None

unfoldable pub version_at : List ℕ → Cursor → Result Item Slip
version_at w c = do
  _ ← check_at c causes.Version (bytes_eq w (codes "work"))
  v ← word_at c
  version ← need_at v.1 causes.Version (version_of_word v.0)
  _ ← end_at v.1
  Ok (items.Version version)

-- a fault of a target, as one of the line
abbrev pub target_slip : TargetFault → Slip
target_slip (wrong.Bad k) = record { word = k; cause = causes.BadTarget }
target_slip (wrong.Missing k) = record { word = k; cause = causes.Missing }
target_slip (wrong.Extra k) = record { word = k; cause = causes.Extra }

abbrev pub target_or : Result Target TargetFault → Result Target Slip
target_or (Ok t) = Ok t
target_or (Err fault) = Err (target_slip fault)

-- a target by its name or its description, which all further words are
abbrev pub described_at : ℕ → Cursor → Result Target Slip
described_at version c = target_or (target_at version c)

unfoldable pub target_line_at : ℕ → List ℕ → Cursor → Result Item Slip
target_line_at version w c = do
  _ ← check_at c causes.UnknownWord (bytes_eq w (codes "target"))
  t ← described_at version c
  Ok (items.Target t)

-- an object where at most so many may stand
unfoldable pub object_at : ℕ → List Declared → Cursor → Result Item Slip
object_at most objects c = do
  _ ← check_at c causes.Limit (nat_lt (length objects) most)
  n ← word_at c
  name ← need_at n.1 causes.UnknownWord (name_of n.0)
  _ ← check_at n.1 causes.Twice (not (is_some (object_of objects n.0)))
  k ← word_at n.1
  kind ← need_at k.1 causes.UnknownWord (kind_of_word k.0)
  v ← word_at k.1
  start ← value_at v.1 (parsed_value kind v.0)
  _ ← end_at v.1
  Ok (items.Object (record { name = name; kind = kind; start = start }))

unfoldable pub thread_at : ℕ → Cursor → Result Item Slip
thread_at threads c = do
  _ ← check_at c causes.Limit (nat_lt threads most_threads)
  _ ← end_at c
  Ok items.Thread

-- ---- calls

-- a value of a kind
unfoldable pub number_at : Kind → Cursor → Result (ℕ × Cursor) Slip
number_at kind c = do
  w ← word_at c
  v ← value_at w.1 (parsed_value kind w.0)
  Ok (v, w.1)

unfoldable pub one_operand_at : Kind → (ℕ → Call) → Cursor → Result (Call × Cursor) Slip
one_operand_at kind call c = do
  a ← number_at kind c
  Ok (call a.0, a.1)

unfoldable pub two_operands_at : Kind → (ℕ → ℕ → Call) → Cursor → Result (Call × Cursor) Slip
two_operands_at kind call c = do
  a ← number_at kind c
  b ← number_at kind a.1
  Ok (call a.0 b.0, b.1)

-- the operands of a form, and the call that it makes of them
unfoldable pub operands_at : Kind → Form → Cursor → Result (Call × Cursor) Slip
operands_at kind (Alone call) c = Ok (call, c)
operands_at kind (WithValue call) c = one_operand_at kind call c
operands_at kind (WithPosition call) c = one_operand_at position_kind call c
operands_at kind (WithValues call) c = two_operands_at kind call c

-- the operations of a version: version 1 has none that answers the new value
abbrev pub is_operation_of : ℕ → Operation → Bool
is_operation_of version op = not (is_later op) || version == 2

abbrev pub if_of_version : ℕ → Option Operation → Option Operation
if_of_version version None = None
if_of_version version (Some op) = if is_operation_of version op then Some op else None

-- the operation that a word stands for in a version
unfoldable pub operation_in : ℕ → List ℕ → Option Operation
operation_in version w = if_of_version version (operation_of_word w)

-- a call's word and its operands
unfoldable pub operation_at : ℕ → Kind → List ℕ → Cursor → Result (Call × Cursor) Slip
operation_at version kind w c = do
  op ← need_at c causes.UnknownWord (operation_in version w)
  _ ← check_at c causes.NotForKind (has_operation kind.class op)
  operands_at kind (form_of op) c

-- a word where an order may stand
unfoldable pub order_at : Cursor → Result (Order × Cursor) Slip
order_at c = do
  w ← word_at c
  order ← need_at w.1 causes.Extra (order_of_word w.0)
  Ok (order, w.1)

unfoldable pub one_order_at : Call → Cursor → Result Orders Slip
one_order_at call c = do
  o ← order_at c
  _ ← check_at o.1 causes.BadOrder (order_fits call o.0 None)
  _ ← end_at o.1
  Ok (record { success = o.0; failure = None })

-- an exchange accepts every order for its success, so only its failure order can be a bad one
unfoldable pub two_orders_at : Call → Cursor → Result Orders Slip
two_orders_at call c = do
  s ← order_at c
  f ← order_at s.1
  _ ← check_at f.1 causes.BadOrder (order_fits call s.0 (Some f.0))
  _ ← end_at f.1
  Ok (record { success = s.0; failure = Some f.0 })

-- the orders, which may be left out, both of an exchange
unfoldable pub orders_at : Call → Cursor → Result Orders Slip
orders_at call c =
    if at_end c then Ok (left_out call)
    else if is_exchange call then two_orders_at call c
    else one_order_at call c

-- the kind of an object; where there is none no kind is meant
abbrev pub kind_in : Option Declared → Kind
kind_in None = record { width = W1; signed = false; class = class.Bool }
kind_in (Some d) = d.kind

abbrev pub kind_at : List Declared → ℕ → Kind
kind_at objects o = kind_in (slice_get objects o)

-- ---- what is awaited

pub record State : Type 0 where
  pub awaits : Awaits
  pub version : ℕ
  pub target : Target
  pub objects : List Declared
  -- the scripts of the threads that are closed
  pub scripts : List (List Piece)
  -- the pieces of the thread that is open
  pub pieces : List Piece
  pub block : Option OpenBlock

-- the target that stands until the line of the target was read
abbrev pub unread_target : Target
unread_target = record { word_bits = 64; packed = false; steps = record { swap = false; add = false; bits = false; order = false }; locks = 1; section = false; big = false }

abbrev pub start : State
start = record { awaits = awaits.Version; version = 1; target = unread_target; objects = []; scripts = []; pieces = []; block = None }

-- how often a call line here is made
abbrev pub times_in : Option OpenBlock → ℕ
times_in None = 1
times_in (Some block) = block.times

-- the block as it would be closed now
abbrev pub closed_block : Option OpenBlock → List Piece
closed_block None = []
closed_block (Some block) = Block block.times block.lines ∷ []

-- the open thread's script so far
abbrev pub script_so_far : State → List Piece
script_so_far s = s.pieces ++ closed_block s.block

-- a call line more passes no limit of lines
abbrev pub has_line_room : State → Limits → Bool
has_line_room s most = nat_lt (lines_written (script_so_far s)) most.lines && nat_lt (sum_by lines_written s.scripts + lines_written (script_so_far s)) most.lines_in_all

-- its calls pass no limit of calls
abbrev pub has_call_room : State → Limits → Bool
has_call_room s most = nat_le (calls_made (script_so_far s) + times_in s.block) most.calls && nat_le (sum_by calls_made s.scripts + calls_made (script_so_far s) + times_in s.block) most.calls_in_all

abbrev pub has_room : State → Bool
has_room s = has_line_room s (limits_of s.version) && has_call_room s (limits_of s.version)

unfoldable pub call_at : State → List ℕ → Cursor → Result Item Slip
call_at s w c = do
  object ← need_at c causes.UnknownName (object_of s.objects w)
  _ ← check_at c causes.Limit (has_room s)
  o ← word_at c
  call ← operation_at s.version (kind_at s.objects object) o.0 o.1
  orders ← orders_at call.0 call.1
  Ok (items.Call (record { object = object; call = call.0; success = orders.success; failure = orders.failure }))

-- ---- blocks

-- the line that opens a block, which must not stand in one
unfoldable pub repeat_at : Option OpenBlock → Cursor → Result Item Slip
repeat_at block c = do
  _ ← check_at c causes.UnknownWord (not (is_some block))
  w ← word_at c
  times ← value_at w.1 (parsed_value position_kind w.0)
  _ ← check_at w.1 causes.OutOfRange (nat_lt 0 times)
  _ ← end_at w.1
  Ok (items.Repeat times)

-- only version 2 has blocks
abbrev pub is_repeat : ℕ → List ℕ → Bool
is_repeat version w = version == 2 && bytes_eq w (codes "repeat:")

-- ---- lines of a state

unfoldable pub first_thread_at : State → List ℕ → Cursor → Result Item Slip
first_thread_at s w c =
    if bytes_eq w (codes "object") then object_at (limits_of s.version).objects s.objects c
    else if bytes_eq w (codes "thread") then thread_at (length s.scripts) c
    else slip c.taken causes.UnknownWord

unfoldable pub next_thread_at : State → List ℕ → Cursor → Result Item Slip
next_thread_at s w c =
    if bytes_eq w (codes "thread") then thread_at (length s.scripts) c
    else slip c.taken causes.UnknownWord

-- `end` closes the block, or the thread where no block is open
unfoldable pub in_thread_at : State → List ℕ → Cursor → Result Item Slip
in_thread_at s w c =
    if bytes_eq w (codes "end") then (do
      _ ← end_at c
      Ok items.End)
    else if is_repeat s.version w then repeat_at s.block c
    else call_at s w c

abbrev pub awaited_at : Awaits → State → List ℕ → Cursor → Result Item Slip
awaited_at awaits.Version s w c = version_at w c
awaited_at awaits.Target s w c = target_line_at s.version w c
awaited_at awaits.Object s w c = first_thread_at s w c
awaited_at awaits.Thread s w c = next_thread_at s w c
awaited_at awaits.Call s w c = in_thread_at s w c

-- what a line says whose first word is w
unfoldable pub item_at : State → List ℕ → Cursor → Result Item Slip
item_at s w c = awaited_at s.awaits s w c

abbrev pub is_comment : List ℕ → Bool
is_comment w = slice_index w 0 == 35

abbrev pub is_printable : ℕ → Bool
is_printable b = nat_le 32 b && nat_le b 126

-- a line without words, and a comment, say nothing
abbrev pub said_by : State → List (List ℕ) → Result (Option Item) Slip
said_by s [] = Ok None
said_by s (w ∷ ws) = if is_comment w then Ok None else (do
  item ← item_at s w (record { taken = 1; left = ws })
  Ok (Some item))

-- what a line says, if anything; its bytes are looked at first
unfoldable pub content_at : State → List ℕ → Result (Option Item) Slip
content_at s line = if list_all is_printable line then said_by s (words_of line) else slip 0 causes.NotAscii

-- the open thread with a line more, or its open block
abbrev pub with_line : State → Line → Option OpenBlock → State
with_line s line None = record s { pieces = s.pieces ++ One line ∷ [] }
with_line s line (Some block) = record s { block = Some (record block { lines = block.lines ++ line ∷ [] }) }

-- the open block is closed, or the open thread
abbrev pub closed : State → Option OpenBlock → State
closed s None = record s { awaits = awaits.Thread; scripts = s.scripts ++ s.pieces ∷ []; pieces = [] }
closed s (Some block) = record s { pieces = s.pieces ++ Block block.times block.lines ∷ []; block = None }

-- the state after an item
abbrev pub next : State → Item → State
next s (items.Version version) = record s { awaits = awaits.Target; version = version }
next s (items.Target t) = record s { awaits = awaits.Object; target = t }
next s (items.Object d) = record s { objects = s.objects ++ d ∷ [] }
next s items.Thread = record s { awaits = awaits.Call }
next s (items.Repeat times) = record s { block = Some (record { times = times; lines = [] }) }
next s (items.Call l) = with_line s l s.block
next s items.End = closed s s.block

abbrev pub next_if : State → Option Item → State
next_if s None = s
next_if s (Some item) = next s item

unfoldable pub after_line : State → List ℕ → Result State Slip
after_line s line = do
  said ← content_at s line
  Ok (next_if s said)

-- an item that is kept where memory is taken for it: an object, a call, or a thread or a block that ends
abbrev pub takes_memory : Item → Bool
takes_memory (items.Version version) = false
takes_memory (items.Target t) = false
takes_memory (items.Object d) = true
takes_memory items.Thread = false
takes_memory (items.Repeat times) = false
takes_memory (items.Call l) = true
takes_memory items.End = true

-- a line without a fault says such an item
abbrev pub NeedsMemory : Result (Option Item) Slip → Type 0
NeedsMemory (Ok None) = ⊥
NeedsMemory (Ok (Some item)) = takes_memory item ≡ true
NeedsMemory (Err s) = ⊥

-- what a step over a line returned and left is what reading gives, unless memory was wanting
abbrev pub Moves : Result (Unit {0}) LineFault → State → Result State Slip → Type 0
Moves (Ok _) new read = read ≡ Ok new
Moves (Err (faults.Slip s)) new read = read ≡ Err s
Moves (Err faults.NoMemory) new read = Unit {0}

-- ---- whole texts

pub record Fault : Type 0 where
  pub line : ℕ
  pub word : ℕ
  pub cause : Cause

abbrev pub at_line : {A : Type 0} → ℕ → Result A Slip → Result A Fault
at_line n (Ok x) = Ok x
at_line n (Err s) = Err (record { line = n; word = s.word; cause = s.cause })

-- the workload of the threads that are closed
abbrev pub work_of : State → Workload
work_of s = record { version = s.version; target = s.target; objects = s.objects; scripts = s.scripts }

-- the end of a text of n lines
abbrev pub ended : Awaits → State → ℕ → Result Workload Fault
ended awaits.Version s n = Err (record { line = n; word = 0; cause = causes.Missing })
ended awaits.Target s n = Err (record { line = n; word = 0; cause = causes.Missing })
ended awaits.Call s n = Err (record { line = n; word = 0; cause = causes.Unclosed })
ended awaits.Object s n = Ok (work_of s)
ended awaits.Thread s n = Ok (work_of s)

-- the rest of a text after n lines that left s
unfoldable pub run : State → ℕ → List (List ℕ) → Result Workload Fault
run s n [] = ended s.awaits s n
run s n (line ∷ lines) = do
  t ← at_line (n + 1) (after_line s line)
  run t (n + 1) lines

-- the workload that a text spells, or its first fault
unfoldable pub reading_of : List ℕ → Result Workload Fault
reading_of text = if nat_lt most_bytes (length text) then Err (record { line = 0; word = 0; cause = causes.TooLong }) else run start 0 (lines_of text)

-- what reading a text returned is its reading, unless memory was wanting
abbrev pub Reads : Result Workload WorkFault → Result Workload Fault → Type 0
Reads (Ok w) read = read ≡ Ok w
Reads (Err (texts.Text line word why)) read = read ≡ Err (record { line = line; word = word; cause = why })
Reads (Err texts.NoMemory) read = Unit {0}
