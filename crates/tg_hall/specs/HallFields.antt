-- The fields of a hall, and what is true of them.
use Rattle.std.specs.Prelude.{◌≤◌, map, length, All}
use Rattle.tg_graph.specs.GraphOf.{graph_of}
use Rattle.tg_graph.specs.Limits.{most_cells}
use Rattle.tg_hall.specs.declared.halls.Hall.TheInside.{Inside}
use Rattle.tg_hall.specs.Histories.{IsLegal, IsNumbered}
use Rattle.tg_hall.specs.Worlds.{World}
use Rattle.tg_hall.specs.Trails.{IsTrail}
use Rattle.tg_hall.specs.Seats.{seen_seat, IsConsistent, Rests, AreCounted}

abbrev pub world_of : Inside → World
world_of h = record { opening = h.opening; cells = h.cells; history = h.records.items; seats = map seen_seat h.seats.items }

pub record IsHall (h : Inside) : Type 0 where
  pub cells : h.cells ≤ most_cells
  pub room : length h.records.items ≤ h.cells
  pub legal : IsLegal (graph_of h.opening) h.records.items
  pub numbered : IsNumbered h.records.items
  pub rests : All (Rests (graph_of h.opening) h.records.items) h.seats.items
  pub consistent : All IsConsistent h.seats.items
  pub trail : IsTrail (graph_of h.opening) h.records.items h.trail
  pub counted : AreCounted h.records.items h.seats.items
