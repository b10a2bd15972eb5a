-- Which objects need no lock, and which class of path each call has.
use Rattle.std.specs.Prelude.{◌≡◌, ℕ, ◌≤◌, false}
use Rattle.op_table.specs.declared.kind.Kind.{Kind}
use Rattle.op_table.specs.declared.call.Call.{Call}
use Rattle.op_table.specs.Kind.{bits_of}
use Rattle.target_desc.specs.declared.target.Target.{Target}
use Rattle.place_core.specs.declared.places.Path.{Path}
use Rattle.place_core.specs.declared.places.Path.TheVariants.{One, Loop, Locked}
use Rattle.place_core.specs.declared.shape.Shape.{Shape}
use Rattle.place_core.specs.Operations.{plan_of}
use Rattle.lock_free_info.specs.declared.classes.PathClass.{PathClass}
use Rattle.lock_free_info.specs.declared.classes.PathClass.TheVariants as path_class

-- calls on objects of the kind take no lock: they are no critical sections, and a word has the kind's bits
pub record IsLockFree (t : Target) (k : Kind) : Type 0 where
  pub no_section : t.section ≡ false
  pub narrow : bits_of k.width ≤ t.word_bits

-- a path without its step
abbrev pub class_by : Path → PathClass
class_by (One done) = path_class.One
class_by Loop = path_class.Loop
class_by Locked = path_class.Locked

-- the class of the path by which a call on object o is made
abbrev pub class_of : Shape → ℕ → Call → PathClass
class_of S o call = class_by (plan_of S o call)
