use Rattle.seat_views.proofs.PathReleases.{call_releases_last}
use Rattle.seat_views.proofs.laws.call_releases_last.Goals as goal

pub returns : goal.returns
returns c = call_releases_last
