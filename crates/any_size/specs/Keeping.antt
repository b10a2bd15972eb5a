-- What the types of blocks and of a pass keep of their fields.
use Rattle.std.specs.Prelude.{◌≡◌, ℕ, ◌+◌, ◌<◌, ◌≤◌, [], List, length, Some, slice_get}
use Rattle.atomic_table.specs.Seated.{TableId}
use Rattle.atomic_table.specs.Table.{Me}
use Rattle.any_size.specs.declared.spot.Spot.{Spot}
use Rattle.any_size.specs.declared.view.BlockOpening.{BlockOpening}
use Rattle.any_size.specs.declared.view.Beside.TheVariants.{Nobody}
use Rattle.any_size.specs.declared.view.BlockView.{BlockView}
use Rattle.any_size.specs.Histories.{size_of}
use Rattle.any_size.specs.Layout.{count_of, lock_of, lock_word, first_word, table_size}
use Rattle.any_size.specs.Steps.{IsSoundView}

-- where object o lies, and that its words are within the table
pub record IsSpot (starts : List (List ℕ)) (locks o : ℕ) (x : Spot) : Type 0 where
  pub inside : o < length starts
  pub first : x.first ≡ first_word starts locks o
  pub lock : x.lock ≡ lock_word (lock_of locks o)
  pub count : x.count ≡ count_of starts o
  pub size : x.size ≡ size_of starts o
  pub some : 1 ≤ size_of starts o
  pub few : size_of starts o ≤ 64

-- of each object where it lies
pub record AreSpots (starts : List (List ℕ)) (locks : ℕ) (spots : List Spot) : Type 0 where
  pub count : length spots ≡ length starts
  pub each : (o : ℕ) (x : Spot) → slice_get spots o ≡ Some x → IsSpot starts locks o x

-- the table has the words of its key, and the spots are those of its starts
pub record KeepsBlocks (key : BlockOpening) (id : TableId) (spots : List Spot) : Type 0 where
  pub words : id.words ≡ table_size key.starts.items key.locks
  pub some_lock : 1 ≤ key.locks
  pub spots_are : AreSpots key.starts.items key.locks spots

-- the numbers are the view's, and the view is sound and has nothing beside it
pub record KeepsPass (number given : ℕ) (me : Me (Unit {0}) BlockView) : Type 0 where
  pub number_is : number ≡ me.0.number
  pub given_is : given ≡ me.0.given
  pub none : me.1 ≡ []
  pub sound : IsSoundView me.0
  pub alone : me.0.beside ≡ Nobody
