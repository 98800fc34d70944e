-- Which values are rules: each name is a name, and each set has no bit without a right.
use Rattle.tg_graph.specs.declared.rules.Rule.{Rule}
use Rattle.tg_graph.specs.declared.rules.Rule.TheVariants.{Take, Grant, Create, Remove}
use Rattle.tg_names.specs.Names.{IsName}
use Rattle.tg_names.specs.Sets.{IsNamed}

abbrev pub IsRule : Rule → Type 0
IsRule (Take x y z s) = IsName x × IsName y × IsName z × IsNamed s
IsRule (Grant x y z s) = IsName x × IsName y × IsName z × IsNamed s
IsRule (Create x n s) = IsName x × IsName n × IsNamed s
IsRule (Remove x y s) = IsName x × IsName y × IsNamed s
