-- Cards by what is written of them.
use Rattle.rh_figure.specs.Cards as cards
use Rattle.rh_elements.specs.declared.cards.Look.{Look}
use Rattle.rh_elements.specs.declared.cards.Look.TheVariants.{Flex, Used, Hole, Post, More}
use Rattle.rh_elements.specs.declared.cards.Card.{Card}

abbrev pub kind_of : Look → cards.CardKind
kind_of Flex = cards.FlexCard
kind_of Used = cards.UsedCard
kind_of Hole = cards.HoleCard
kind_of Post = cards.PostCard
kind_of More = cards.MoreCard

abbrev pub drawn_card : Card → cards.Card
drawn_card c = record {
  kind = kind_of c.look;
  first = c.first.now;
  second = c.second.now;
  third = c.third.now;
  fresh = c.fresh;
}
