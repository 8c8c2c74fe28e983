use Rattle.bg_rewriting.proofs.Storing.{stored_numbers, stored_rows}
use Rattle.bg_rewriting.proofs.stores_leave_what_is_due.Goals as goal

pub returns-clause-numbers : goal.returns-clause-numbers
returns-clause-numbers c = λ host rule boundary gone move new rows same_id numbers is. stored_numbers host rule boundary gone move new rows same_id numbers is

pub returns-clause-rows : goal.returns-clause-rows
returns-clause-rows c = λ host rule nodes boundary gone move new rows is kept made row m.
    stored_rows host rule nodes boundary gone move new rows is kept made row m
