use Rattle.seat_views.proofs.PathReleases.{load_releases_last}
use Rattle.seat_views.proofs.laws.load_releases_last.Goals as goal

pub returns : goal.returns
returns c = load_releases_last
