-- What a try does to known bytes, where the tries before it kept them.
use Rattle.std.proofs.Common.{ℕ, List, None, Some, sym, ◌∙◌}
use Rattle.std.specs.Io.KnownBytes.{Consumes, Keeps}
use Rattle.std.specs.declared.option.Option.{Option}

pub Consumes-after : (old mid new : Option (List ℕ)) (bytes : List ℕ) → Keeps old mid → Consumes mid new bytes → Consumes old new bytes
Consumes-after None mid new bytes kept last = tt
Consumes-after (Some xs) None new bytes kept last = absurd kept
Consumes-after (Some xs) (Some ys) None bytes kept last = absurd last
Consumes-after (Some xs) (Some ys) (Some zs) bytes kept last = sym kept ∙ last
