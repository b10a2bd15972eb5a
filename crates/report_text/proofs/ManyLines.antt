-- Values of last loads as lines.
use Rattle.std.proofs.Common.{◌≡◌, ◌∙◌, ℕ, zero, suc, ◌<◌, List, [], ◌∷◌, map, sym, ap}
use Rattle.std.specs.Prelude.{Option, Some, IsSomeAnd, slice_get}
use Rattle.op_table.specs.declared.kind.Kind.{Kind}
use Rattle.op_table.specs.declared.call.Reply.{Reply}
use Rattle.op_table.specs.declared.call.Reply.TheVariants as reply
use Rattle.op_table.specs.Kind.{values_of}
use Rattle.op_table.specs.Call.{ReplyFits}
use Rattle.report_text.specs.Many.{value_replied}

pub value_fits : (kind : Kind) (r : Reply) → IsSomeAnd (value_replied r) (λ v. v < values_of kind) → ReplyFits kind r
value_fits kind reply.Unit fits = absurd fits
value_fits kind (reply.Value v) fits = fits
value_fits kind (reply.Bit b) fits = absurd fits
value_fits kind (reply.Done v) fits = absurd fits
value_fits kind (reply.Failed v) fits = absurd fits

pub told_at : (rs : List Reply) (i : ℕ) (r : Reply) (told : Option ℕ) → slice_get rs i ≡ Some r → told ≡ value_replied r → slice_get (map value_replied rs) i ≡ Some told
told_at [] i r told at is = absurd cc
told_at (x ∷ rs) zero r told at is = let same : x ≡ r = cc in ap (λ (y : Reply). Some (value_replied y)) same ∙ ap Some (sym is)
told_at (x ∷ rs) (suc i) r told at is = told_at rs i r told at is
