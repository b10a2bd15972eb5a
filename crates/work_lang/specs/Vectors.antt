-- What texts are read as, by example.
use Rattle.std.specs.Prelude.{◌≡◌, ℕ, List, [], ◌∷◌, ◌++◌, true, false, Ok, Err, Some, None, codes}
use Rattle.op_table.specs.declared.call.Call.TheVariants as call
use Rattle.op_table.specs.declared.kind.Class.TheVariants as class
use Rattle.op_table.specs.declared.kind.Width.TheVariants.{W1, W8, W16, W32, W64, W128}
use Rattle.op_table.specs.declared.order.Order.TheVariants.{Relaxed, Acquire, Release, AcqRel, SeqCst}
use Rattle.target_desc.specs.Target.{all_steps, no_steps}
use Rattle.place_core.specs.declared.script.Piece.TheVariants.{One, Block}
use Rattle.work_lang.specs.declared.fault.Cause.{Cause}
use Rattle.work_lang.specs.Workload.{Workload}
use Rattle.work_lang.specs.Reading.{reading_of}

-- lines, each with its line feed
abbrev pub text_by : List (List ℕ) → List ℕ
text_by [] = []
text_by (line ∷ lines) = line ++ 10 ∷ text_by lines

-- the text of these lines has this fault
abbrev pub HasFault : List (List ℕ) → ℕ → ℕ → Cause → Type 0
HasFault lines line word cause = reading_of (text_by lines) ≡ Err (record { line = line; word = word; cause = cause })

-- the text of these lines is read as this workload
abbrev pub IsReadAs : List (List ℕ) → Workload → Type 0
IsReadAs lines work = reading_of (text_by lines) ≡ Ok work

-- ---- workloads, as they stand in texts

-- a target alone is a workload
abbrev pub NoObjectsIsRead : Type 0
NoObjectsIsRead =
    IsReadAs (codes "work 1" ∷ codes "target full64" ∷ [])
    (record { version = 1; target = record { word_bits = 64; packed = false; steps = all_steps; locks = 67; section = false; big = false }; objects = []; scripts = [] })

-- two calls of a thread
abbrev pub OneThreadIsRead : Type 0
OneThreadIsRead =
    IsReadAs (codes "work 1" ∷ codes "target full64" ∷ codes "object n u64 0" ∷ codes "thread" ∷ codes "n fetch_add 5" ∷ codes "n load" ∷ codes "end" ∷ [])
    (record { version = 1; target = record { word_bits = 64; packed = false; steps = all_steps; locks = 67; section = false; big = false }; objects = ((record { name = codes "n"; kind = record { width = W64; signed = false; class = class.Int }; start = 0 }) ∷ []); scripts = (((One (record { object = 0; call = call.Add 5 false; success = SeqCst; failure = None })) ∷ (One (record { object = 0; call = call.Load; success = SeqCst; failure = None })) ∷ []) ∷ []) })

-- comments, empty lines and spare spaces say nothing, and orders may be left out
abbrev pub CommentsAndSpacesIsRead : Type 0
CommentsAndSpacesIsRead =
    IsReadAs (codes "# demo" ∷ [] ∷ codes "work 1" ∷ codes "target 64 packed swap+add+bits+order 67 locks" ∷ codes "object  n usize 3" ∷ codes "thread" ∷ codes "n compare_exchange 3 4 seq_cst seq_cst" ∷ codes "n load acquire" ∷ codes "end" ∷ [])
    (record { version = 1; target = record { word_bits = 64; packed = true; steps = all_steps; locks = 67; section = false; big = false }; objects = ((record { name = codes "n"; kind = record { width = W64; signed = false; class = class.Int }; start = 3 }) ∷ []); scripts = (((One (record { object = 0; call = call.Cas 3 4; success = SeqCst; failure = Some SeqCst })) ∷ (One (record { object = 0; call = call.Load; success = Acquire; failure = None })) ∷ []) ∷ []) })

-- objects of a byte
abbrev pub LanesIsRead : Type 0
LanesIsRead =
    IsReadAs (codes "work 1" ∷ codes "target word64" ∷ codes "object a u8 250" ∷ codes "object b u8 7" ∷ codes "thread" ∷ codes "a fetch_add 10" ∷ codes "a load" ∷ codes "b load" ∷ codes "end" ∷ [])
    (record { version = 1; target = record { word_bits = 64; packed = true; steps = all_steps; locks = 67; section = false; big = false }; objects = ((record { name = codes "a"; kind = record { width = W8; signed = false; class = class.Int }; start = 250 }) ∷ (record { name = codes "b"; kind = record { width = W8; signed = false; class = class.Int }; start = 7 }) ∷ []); scripts = (((One (record { object = 0; call = call.Add 10 false; success = SeqCst; failure = None })) ∷ (One (record { object = 0; call = call.Load; success = SeqCst; failure = None })) ∷ (One (record { object = 1; call = call.Load; success = SeqCst; failure = None })) ∷ []) ∷ []) })

-- a target whose calls are sections
abbrev pub InASectionIsRead : Type 0
InASectionIsRead =
    IsReadAs (codes "work 1" ∷ codes "target section32" ∷ codes "object v u8 0" ∷ codes "thread" ∷ codes "v store 9" ∷ codes "v load" ∷ codes "end" ∷ [])
    (record { version = 1; target = record { word_bits = 32; packed = false; steps = no_steps; locks = 1; section = true; big = false }; objects = ((record { name = codes "v"; kind = record { width = W8; signed = false; class = class.Int }; start = 0 }) ∷ []); scripts = (((One (record { object = 0; call = call.Store 9; success = SeqCst; failure = None })) ∷ (One (record { object = 0; call = call.Load; success = SeqCst; failure = None })) ∷ []) ∷ []) })

-- a negative number is a pattern of its width, and 128 bits are read whole
abbrev pub KindsOfValuesIsRead : Type 0
KindsOfValuesIsRead =
    IsReadAs (codes "work 1" ∷ codes "target full64" ∷ codes "object a u8 200" ∷ codes "object d i16 -5" ∷ codes "object w u128 340282366920938463463374607431768211455" ∷ codes "thread" ∷ codes "a fetch_sub 201" ∷ codes "d fetch_max 3" ∷ codes "w fetch_xor 1" ∷ codes "w bit_clear 127" ∷ codes "end" ∷ [])
    (record { version = 1; target = record { word_bits = 64; packed = false; steps = all_steps; locks = 67; section = false; big = false }; objects = ((record { name = codes "a"; kind = record { width = W8; signed = false; class = class.Int }; start = 200 }) ∷ (record { name = codes "d"; kind = record { width = W16; signed = true; class = class.Int }; start = 65531 }) ∷ (record { name = codes "w"; kind = record { width = W128; signed = false; class = class.Int }; start = 340282366920938463463374607431768211455 }) ∷ []); scripts = (((One (record { object = 0; call = call.Sub 201 false; success = SeqCst; failure = None })) ∷ (One (record { object = 1; call = call.Max 3; success = SeqCst; failure = None })) ∷ (One (record { object = 2; call = call.Xor 1 false; success = SeqCst; failure = None })) ∷ (One (record { object = 2; call = call.BitClear 127; success = SeqCst; failure = None })) ∷ []) ∷ []) })

-- bools, pointers and orders
abbrev pub BoolsAndPointersIsRead : Type 0
BoolsAndPointersIsRead =
    IsReadAs (codes "work 1" ∷ codes "target word32" ∷ codes "object ready bool false" ∷ codes "object head ptr 0x0" ∷ codes "thread" ∷ codes "head compare_exchange 0x0 0x10 acq_rel acquire" ∷ codes "ready store true release" ∷ codes "end" ∷ codes "thread" ∷ codes "ready load acquire" ∷ codes "head load acquire" ∷ codes "end" ∷ [])
    (record { version = 1; target = record { word_bits = 32; packed = true; steps = all_steps; locks = 67; section = false; big = false }; objects = ((record { name = codes "ready"; kind = record { width = W1; signed = false; class = class.Bool }; start = 0 }) ∷ (record { name = codes "head"; kind = record { width = W64; signed = false; class = class.Ptr }; start = 0 }) ∷ []); scripts = (((One (record { object = 1; call = call.Cas 0 16; success = AcqRel; failure = Some Acquire })) ∷ (One (record { object = 0; call = call.Store 1; success = Release; failure = None })) ∷ []) ∷ ((One (record { object = 0; call = call.Load; success = Acquire; failure = None })) ∷ (One (record { object = 1; call = call.Load; success = Acquire; failure = None })) ∷ []) ∷ []) })

-- a block of version 2
abbrev pub ABlockIsRead : Type 0
ABlockIsRead =
    IsReadAs (codes "work 2" ∷ codes "target full64" ∷ codes "object n u8 0" ∷ codes "thread" ∷ codes "repeat: 300" ∷ codes "n fetch_add 1" ∷ codes "end" ∷ codes "n load" ∷ codes "end" ∷ [])
    (record { version = 2; target = record { word_bits = 64; packed = false; steps = all_steps; locks = 67; section = false; big = false }; objects = ((record { name = codes "n"; kind = record { width = W8; signed = false; class = class.Int }; start = 0 }) ∷ []); scripts = (((Block 300 ((record { object = 0; call = call.Add 1 false; success = SeqCst; failure = None }) ∷ [])) ∷ (One (record { object = 0; call = call.Load; success = SeqCst; failure = None })) ∷ []) ∷ []) })

-- a call that answers the new value
abbrev pub ANewValueIsRead : Type 0
ANewValueIsRead =
    IsReadAs (codes "work 2" ∷ codes "target word64" ∷ codes "object a u8 250" ∷ codes "thread" ∷ codes "a add_fetch 10" ∷ codes "end" ∷ [])
    (record { version = 2; target = record { word_bits = 64; packed = true; steps = all_steps; locks = 67; section = false; big = false }; objects = ((record { name = codes "a"; kind = record { width = W8; signed = false; class = class.Int }; start = 250 }) ∷ []); scripts = (((One (record { object = 0; call = call.AddFetch 10; success = SeqCst; failure = None })) ∷ []) ∷ []) })

-- a target that begins with the most significant byte
abbrev pub ABigTargetIsRead : Type 0
ABigTargetIsRead =
    IsReadAs (codes "work 2" ∷ codes "target 64 packed swap+add+bits+order 67 locks big" ∷ codes "object a u8 250" ∷ codes "object b u8 7" ∷ codes "thread" ∷ codes "a fetch_add 10" ∷ codes "end" ∷ [])
    (record { version = 2; target = record { word_bits = 64; packed = true; steps = all_steps; locks = 67; section = false; big = true }; objects = ((record { name = codes "a"; kind = record { width = W8; signed = false; class = class.Int }; start = 250 }) ∷ (record { name = codes "b"; kind = record { width = W8; signed = false; class = class.Int }; start = 7 }) ∷ []); scripts = (((One (record { object = 0; call = call.Add 10 false; success = SeqCst; failure = None })) ∷ []) ∷ []) })

-- a thread for each script
abbrev pub TwoThreadsIsRead : Type 0
TwoThreadsIsRead =
    IsReadAs (codes "work 1" ∷ codes "target full64" ∷ codes "object s u8 0" ∷ codes "thread" ∷ codes "s swap 1" ∷ codes "end" ∷ codes "thread" ∷ codes "s swap 2" ∷ codes "end" ∷ [])
    (record { version = 1; target = record { word_bits = 64; packed = false; steps = all_steps; locks = 67; section = false; big = false }; objects = ((record { name = codes "s"; kind = record { width = W8; signed = false; class = class.Int }; start = 0 }) ∷ []); scripts = (((One (record { object = 0; call = call.Swap 1; success = SeqCst; failure = None })) ∷ []) ∷ ((One (record { object = 0; call = call.Swap 2; success = SeqCst; failure = None })) ∷ []) ∷ []) })

-- both exchanges
abbrev pub WeakExchangeIsRead : Type 0
WeakExchangeIsRead =
    IsReadAs (codes "work 1" ∷ codes "target full64" ∷ codes "object a u8 4" ∷ codes "thread" ∷ codes "a compare_exchange 3 9" ∷ codes "a compare_exchange_weak 9 4" ∷ codes "end" ∷ [])
    (record { version = 1; target = record { word_bits = 64; packed = false; steps = all_steps; locks = 67; section = false; big = false }; objects = ((record { name = codes "a"; kind = record { width = W8; signed = false; class = class.Int }; start = 4 }) ∷ []); scripts = (((One (record { object = 0; call = call.Cas 3 9; success = SeqCst; failure = Some SeqCst })) ∷ (One (record { object = 0; call = call.CasWeak 9 4; success = SeqCst; failure = Some SeqCst })) ∷ []) ∷ []) })

-- lanes that fill a word
abbrev pub EightBytesIsRead : Type 0
EightBytesIsRead =
    IsReadAs (codes "work 1" ∷ codes "target word64" ∷ codes "object c0 u8 1" ∷ codes "object c1 u8 1" ∷ codes "object c2 u8 1" ∷ codes "object c3 u8 1" ∷ codes "object c4 u8 1" ∷ codes "object c5 u8 1" ∷ codes "object c6 u8 1" ∷ codes "object c7 u8 255" ∷ codes "thread" ∷ codes "c7 fetch_add 1" ∷ codes "end" ∷ [])
    (record { version = 1; target = record { word_bits = 64; packed = true; steps = all_steps; locks = 67; section = false; big = false }; objects = ((record { name = codes "c0"; kind = record { width = W8; signed = false; class = class.Int }; start = 1 }) ∷ (record { name = codes "c1"; kind = record { width = W8; signed = false; class = class.Int }; start = 1 }) ∷ (record { name = codes "c2"; kind = record { width = W8; signed = false; class = class.Int }; start = 1 }) ∷ (record { name = codes "c3"; kind = record { width = W8; signed = false; class = class.Int }; start = 1 }) ∷ (record { name = codes "c4"; kind = record { width = W8; signed = false; class = class.Int }; start = 1 }) ∷ (record { name = codes "c5"; kind = record { width = W8; signed = false; class = class.Int }; start = 1 }) ∷ (record { name = codes "c6"; kind = record { width = W8; signed = false; class = class.Int }; start = 1 }) ∷ (record { name = codes "c7"; kind = record { width = W8; signed = false; class = class.Int }; start = 255 }) ∷ []); scripts = (((One (record { object = 7; call = call.Add 1 false; success = SeqCst; failure = None })) ∷ []) ∷ []) })

-- the least value of a signed kind
abbrev pub ALeastValueIsRead : Type 0
ALeastValueIsRead =
    IsReadAs (codes "work 1" ∷ codes "target full64" ∷ codes "object n i8 -128" ∷ codes "thread" ∷ codes "n fetch_neg" ∷ codes "end" ∷ [])
    (record { version = 1; target = record { word_bits = 64; packed = false; steps = all_steps; locks = 67; section = false; big = false }; objects = ((record { name = codes "n"; kind = record { width = W8; signed = true; class = class.Int }; start = 128 }) ∷ []); scripts = (((One (record { object = 0; call = call.Neg false; success = SeqCst; failure = None })) ∷ []) ∷ []) })

-- a call of one operand
abbrev pub ANandIsRead : Type 0
ANandIsRead =
    IsReadAs (codes "work 1" ∷ codes "target full64" ∷ codes "object n u8 12" ∷ codes "thread" ∷ codes "n fetch_nand 10" ∷ codes "end" ∷ [])
    (record { version = 1; target = record { word_bits = 64; packed = false; steps = all_steps; locks = 67; section = false; big = false }; objects = ((record { name = codes "n"; kind = record { width = W8; signed = false; class = class.Int }; start = 12 }) ∷ []); scripts = (((One (record { object = 0; call = call.Nand 10; success = SeqCst; failure = None })) ∷ []) ∷ []) })

-- operands of a signed kind
abbrev pub AMinimumIsRead : Type 0
AMinimumIsRead =
    IsReadAs (codes "work 1" ∷ codes "target full64" ∷ codes "object n i16 -5" ∷ codes "thread" ∷ codes "n fetch_max 3" ∷ codes "n fetch_min -32768" ∷ codes "end" ∷ [])
    (record { version = 1; target = record { word_bits = 64; packed = false; steps = all_steps; locks = 67; section = false; big = false }; objects = ((record { name = codes "n"; kind = record { width = W16; signed = true; class = class.Int }; start = 65531 }) ∷ []); scripts = (((One (record { object = 0; call = call.Max 3; success = SeqCst; failure = None })) ∷ (One (record { object = 0; call = call.Min 32768; success = SeqCst; failure = None })) ∷ []) ∷ []) })

-- a position of a bit counts modulo the width only when the call is made
abbrev pub PositionsIsRead : Type 0
PositionsIsRead =
    IsReadAs (codes "work 1" ∷ codes "target full64" ∷ codes "object n u8 0" ∷ codes "thread" ∷ codes "n bit_set 3" ∷ codes "n bit_set 11" ∷ codes "end" ∷ [])
    (record { version = 1; target = record { word_bits = 64; packed = false; steps = all_steps; locks = 67; section = false; big = false }; objects = ((record { name = codes "n"; kind = record { width = W8; signed = false; class = class.Int }; start = 0 }) ∷ []); scripts = (((One (record { object = 0; call = call.BitSet 3; success = SeqCst; failure = None })) ∷ (One (record { object = 0; call = call.BitSet 11; success = SeqCst; failure = None })) ∷ []) ∷ []) })

-- an object of four words
abbrev pub FourWordsIsRead : Type 0
FourWordsIsRead =
    IsReadAs (codes "work 1" ∷ codes "target word32" ∷ codes "object w u128 340282366920938463463374607431768211455" ∷ codes "thread" ∷ codes "w fetch_add 1" ∷ codes "end" ∷ [])
    (record { version = 1; target = record { word_bits = 32; packed = true; steps = all_steps; locks = 67; section = false; big = false }; objects = ((record { name = codes "w"; kind = record { width = W128; signed = false; class = class.Int }; start = 340282366920938463463374607431768211455 }) ∷ []); scripts = (((One (record { object = 0; call = call.Add 1 false; success = SeqCst; failure = None })) ∷ []) ∷ []) })

-- objects alone are a workload
abbrev pub NoThreadsIsRead : Type 0
NoThreadsIsRead =
    IsReadAs (codes "work 1" ∷ codes "target cas32" ∷ codes "object u u32 0" ∷ codes "object g u64 0" ∷ [])
    (record { version = 1; target = record { word_bits = 32; packed = true; steps = no_steps; locks = 67; section = false; big = false }; objects = ((record { name = codes "u"; kind = record { width = W32; signed = false; class = class.Int }; start = 0 }) ∷ (record { name = codes "g"; kind = record { width = W64; signed = false; class = class.Int }; start = 0 }) ∷ []); scripts = [] })

-- an order that is left out is the strongest
abbrev pub EqualLinesIsRead : Type 0
EqualLinesIsRead =
    IsReadAs (codes "work 1" ∷ codes "target full64" ∷ codes "object n u8 0" ∷ codes "thread" ∷ codes "n load" ∷ codes "n load seq_cst" ∷ codes "n fetch_add 1" ∷ codes "end" ∷ [])
    (record { version = 1; target = record { word_bits = 64; packed = false; steps = all_steps; locks = 67; section = false; big = false }; objects = ((record { name = codes "n"; kind = record { width = W8; signed = false; class = class.Int }; start = 0 }) ∷ []); scripts = (((One (record { object = 0; call = call.Load; success = SeqCst; failure = None })) ∷ (One (record { object = 0; call = call.Load; success = SeqCst; failure = None })) ∷ (One (record { object = 0; call = call.Add 1 false; success = SeqCst; failure = None })) ∷ []) ∷ []) })

-- three threads on objects of four kinds
abbrev pub AUsualWorkloadIsRead : Type 0
AUsualWorkloadIsRead =
    IsReadAs (codes "work 1" ∷ codes "target word32" ∷ codes "object ready bool false" ∷ codes "object hits u16 0" ∷ codes "object id u128 18446744073709551616" ∷ codes "object head ptr 0x0" ∷ codes "thread" ∷ codes "hits fetch_add 1 relaxed" ∷ codes "id fetch_add 1" ∷ codes "ready store true release" ∷ codes "end" ∷ codes "thread" ∷ codes "hits fetch_add 1 relaxed" ∷ codes "id fetch_add 1" ∷ codes "head compare_exchange 0x0 0x10 acq_rel acquire" ∷ codes "end" ∷ codes "thread" ∷ codes "ready load acquire" ∷ codes "head load acquire" ∷ codes "hits fetch_add 1 relaxed" ∷ codes "end" ∷ [])
    (record { version = 1; target = record { word_bits = 32; packed = true; steps = all_steps; locks = 67; section = false; big = false }; objects = ((record { name = codes "ready"; kind = record { width = W1; signed = false; class = class.Bool }; start = 0 }) ∷ (record { name = codes "hits"; kind = record { width = W16; signed = false; class = class.Int }; start = 0 }) ∷ (record { name = codes "id"; kind = record { width = W128; signed = false; class = class.Int }; start = 18446744073709551616 }) ∷ (record { name = codes "head"; kind = record { width = W64; signed = false; class = class.Ptr }; start = 0 }) ∷ []); scripts = (((One (record { object = 1; call = call.Add 1 false; success = Relaxed; failure = None })) ∷ (One (record { object = 2; call = call.Add 1 false; success = SeqCst; failure = None })) ∷ (One (record { object = 0; call = call.Store 1; success = Release; failure = None })) ∷ []) ∷ ((One (record { object = 1; call = call.Add 1 false; success = Relaxed; failure = None })) ∷ (One (record { object = 2; call = call.Add 1 false; success = SeqCst; failure = None })) ∷ (One (record { object = 3; call = call.Cas 0 16; success = AcqRel; failure = Some Acquire })) ∷ []) ∷ ((One (record { object = 0; call = call.Load; success = Acquire; failure = None })) ∷ (One (record { object = 3; call = call.Load; success = Acquire; failure = None })) ∷ (One (record { object = 1; call = call.Add 1 false; success = Relaxed; failure = None })) ∷ []) ∷ []) })
