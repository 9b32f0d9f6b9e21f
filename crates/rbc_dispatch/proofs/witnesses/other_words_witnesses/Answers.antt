use Rattle.rbc_dispatch.proofs.WitnessWords.{all_codes, another_code, batch_page, code_seventeen, code_twelve, code_zero, help_of_run, lines, long_lines, message, objects, one_object, page_and_more, track_page}
use Rattle.rbc_dispatch.proofs.witnesses.other_words_witnesses.Goals as goal

pub returns-clause-all_codes : goal.returns-clause-all_codes
returns-clause-all_codes c = all_codes

pub returns-clause-code_twelve : goal.returns-clause-code_twelve
returns-clause-code_twelve c = code_twelve

pub returns-clause-another_code : goal.returns-clause-another_code
returns-clause-another_code c = another_code

pub returns-clause-code_zero : goal.returns-clause-code_zero
returns-clause-code_zero c = code_zero

pub returns-clause-code_seventeen : goal.returns-clause-code_seventeen
returns-clause-code_seventeen c = code_seventeen

pub returns-clause-objects : goal.returns-clause-objects
returns-clause-objects c = objects

pub returns-clause-one_object : goal.returns-clause-one_object
returns-clause-one_object c = one_object

pub returns-clause-lines : goal.returns-clause-lines
returns-clause-lines c = lines

pub returns-clause-message : goal.returns-clause-message
returns-clause-message c = message

pub returns-clause-long_lines : goal.returns-clause-long_lines
returns-clause-long_lines c = long_lines

pub returns-clause-batch_page : goal.returns-clause-batch_page
returns-clause-batch_page c = batch_page

pub returns-clause-track_page : goal.returns-clause-track_page
returns-clause-track_page c = track_page

pub returns-clause-help_of_run : goal.returns-clause-help_of_run
returns-clause-help_of_run c = help_of_run

pub returns-clause-page_and_more : goal.returns-clause-page_and_more
returns-clause-page_and_more c = page_and_more
