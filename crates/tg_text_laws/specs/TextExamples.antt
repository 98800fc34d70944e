-- Small texts and what they mean.
use Rattle.std.specs.Prelude.{◌≡◌, refl, [], ◌∷◌, ◌++◌, codes, Ok, Err}
use Rattle.tg_graph.specs.declared.rules.Rule.TheVariants.{Take}
use Rattle.tg_graph.specs.declared.session.Act.TheVariants.{Begin}
use Rattle.tg_words.specs.declared.faults.TextKind.TheVariants.{WordCount, BadRights, DuplicateEdge, BadWord, NoHeader, BadNumber}
use Rattle.tg_text.specs.WordLaws.{with_feeds}
use Rattle.tg_text.specs.GraphText.{graph_text, vertex_item, edge_item, graph_item}
use Rattle.tg_text.specs.RuleText.{two_names, three_names, rule_of_words, rule_line, rule_item, rules_text}
use Rattle.tg_text.specs.ScriptText.{act_of_words, event_of_words, event_item, script_item, script_text}
use Rattle.tg_words.specs.Words.{header_number}

an_edge_has_four_words : graph_text (with_feeds (codes "vertex a" ∷ []) ++ codes "edge a") ≡ Err (2, WordCount)
unfolding graph_text graph_item vertex_item edge_item
an_edge_has_four_words = refl

no_letter_stands_twice : graph_text (with_feeds (codes "vertex a" ∷ codes "edge a a tt" ∷ [])) ≡ Err (2, BadRights)
unfolding graph_text graph_item vertex_item edge_item
no_letter_stands_twice = refl

no_edge_stands_twice : graph_text (with_feeds (codes "vertex a" ∷ codes "vertex b" ∷ codes "edge a b r" ∷ codes "edge a b w" ∷ [])) ≡ Err (4, DuplicateEdge)
unfolding graph_text graph_item vertex_item edge_item
no_edge_stands_twice = refl

a_version_stands_first : graph_text (with_feeds (codes "vertex a" ∷ codes "version 2" ∷ [])) ≡ Err (2, BadWord)
unfolding graph_text graph_item vertex_item edge_item header_number
a_version_stands_first = refl

there_is_no_version_three : graph_text (with_feeds (codes "# x" ∷ codes "version 3" ∷ [])) ≡ Err (2, BadNumber)
unfolding graph_text graph_item vertex_item edge_item header_number
there_is_no_version_three = refl

version_one_has_no_d : graph_text (with_feeds (codes "version 1" ∷ codes "vertex a" ∷ codes "edge a a d" ∷ [])) ≡ Err (3, BadRights)
unfolding graph_text graph_item vertex_item edge_item header_number
version_one_has_no_d = refl

a_script_begins_with_seats : script_text (with_feeds (codes "cells 8" ∷ [])) ≡ Err (1, BadWord)
unfolding script_text script_item header_number
a_script_begins_with_seats = refl

a_script_has_a_header : script_text (with_feeds (codes "seats 2" ∷ [])) ≡ Err (2, NoHeader)
unfolding script_text script_item header_number
a_script_has_a_header = refl

a_seat_is_one_of_the_seats : script_text (with_feeds (codes "seats 1" ∷ codes "cells 1" ∷ codes "2 begin" ∷ [])) ≡ Err (3, BadNumber)
unfolding script_text script_item header_number event_item event_of_words act_of_words
a_seat_is_one_of_the_seats = refl

one_event : script_text (with_feeds (codes "seats 1" ∷ codes "# " ∷ codes "cells 3" ∷ codes "1 begin" ∷ [])) ≡ Ok (record { seats = 1; cells = 3; lines = record { line = 4; seat = 1; act = Begin } ∷ [] })
unfolding script_text script_item header_number event_item event_of_words act_of_words
one_event = refl

rules_text_counts_comments : rules_text (with_feeds (codes "# x" ∷ [] ∷ codes "take a b c wr" ∷ [])) ≡ Ok (record { line = 3; rule = Take (codes "a") (codes "b") (codes "c") (record { 0 = 12 }) } ∷ [])
unfolding rules_text rule_item rule_line rule_of_words three_names two_names
rules_text_counts_comments = refl
