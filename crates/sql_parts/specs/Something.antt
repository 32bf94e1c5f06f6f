-- No part of a list is without tokens.
use Rattle.std.specs.Prelude.{◌≡◌, false, refl}
use Rattle.sql_grammar.specs.Grammar.{mark, type_rule, column, table_part, item, tuple, set_part, out_part, tab, join, from_part, group_part, order_part}
use Rattle.sql_grammar.specs.Reading.{is_nullable}

pub mark_something : is_nullable mark ≡ false
unfolding mark
mark_something = refl

pub part_something : is_nullable table_part ≡ false
unfolding table_part column type_rule mark
part_something = refl

pub item_something : is_nullable item ≡ false
unfolding item
item_something = refl

pub tuple_something : is_nullable tuple ≡ false
unfolding tuple item
tuple_something = refl

pub set_something : is_nullable set_part ≡ false
unfolding set_part item
set_something = refl

pub out_something : is_nullable out_part ≡ false
unfolding out_part
out_something = refl

pub join_something : is_nullable join ≡ false
unfolding join
join_something = refl

pub from_something : is_nullable from_part ≡ false
unfolding from_part tab
from_something = refl

pub group_something : is_nullable group_part ≡ false
unfolding group_part
group_something = refl

pub order_something : is_nullable order_part ≡ false
unfolding order_part
order_something = refl
