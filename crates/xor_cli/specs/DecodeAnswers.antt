-- What becomes of what the decoder of each format answers.
use Rattle.std.specs.Prelude.{Result, Ok, Err}
use Rattle.sbc_cdbs.specs.declared.commands.Command.{Command}
use Rattle.sbc_cdbs.specs.declared.decoding.CdbFault.{CdbFault}
use Rattle.sbc_cdbs.specs.declared.decoding.CdbFault.TheVariants as cdb_faults
use Rattle.sense_data.specs.declared.senses.Sense.{Sense}
use Rattle.sense_data.specs.declared.decoding.SenseFault.{SenseFault}
use Rattle.sense_data.specs.declared.decoding.SenseFault.TheVariants as sense_faults
use Rattle.xor_mode_page.specs.declared.pages.XorPage.{XorPage}
use Rattle.xor_mode_page.specs.declared.pages.PageFault.{PageFault}
use Rattle.xor_mode_page.specs.declared.pages.PageFault.TheVariants as page_faults
use Rattle.xor_params.specs.declared.lists.Params.{Params}
use Rattle.xor_params.specs.declared.lists.ParamFault.{ParamFault}
use Rattle.xor_params.specs.declared.lists.ParamFault.TheVariants as list_faults
use Rattle.xor_cli.specs.declared.decoding.faults.DecodeFault.TheVariants as faults
use Rattle.xor_cli.specs.declared.decoding.values.DecodedValue.{DecodedValue}
use Rattle.xor_cli.specs.declared.decoding.values.DecodedValue.TheVariants as values
use Rattle.xor_cli.specs.declared.decoding.values.Undecoded.{Undecoded}
use Rattle.xor_cli.specs.declared.decoding.values.Undecoded.TheVariants as undecoded

abbrev pub cdb_answer : Result Command CdbFault → Result DecodedValue Undecoded
cdb_answer (Ok command) = Ok (values.Cdb command)
cdb_answer (Err (cdb_faults.OpCode code)) = Err (undecoded.Faulty (faults.OpCode code))
cdb_answer (Err (cdb_faults.Length want got)) = Err (undecoded.Faulty (faults.Length want got))
cdb_answer (Err (cdb_faults.Bits byte)) = Err (undecoded.Faulty (faults.Bits byte))

abbrev pub sense_answer : Result Sense SenseFault → Result DecodedValue Undecoded
sense_answer (Ok sense) = Ok (values.Sense sense)
sense_answer (Err (sense_faults.Length got)) = Err (undecoded.Faulty (faults.Length 18 got))
sense_answer (Err (sense_faults.Code got)) = Err (undecoded.Faulty (faults.Code got))
sense_answer (Err (sense_faults.Bits byte)) = Err (undecoded.Faulty (faults.Bits byte))

abbrev pub page_answer : Result XorPage PageFault → Result DecodedValue Undecoded
page_answer (Ok page) = Ok (values.Page page)
page_answer (Err (page_faults.Length want got)) = Err (undecoded.Faulty (faults.Length want got))
page_answer (Err (page_faults.Field byte)) = Err (undecoded.Faulty (faults.Field byte))

abbrev pub params_answer : Result Params ParamFault → Result DecodedValue Undecoded
params_answer (Ok params) = Ok (values.Params params)
params_answer (Err (list_faults.Length want got)) = Err (undecoded.Faulty (faults.Length want got))
params_answer (Err (list_faults.Field byte)) = Err (undecoded.Faulty (faults.Field byte))
params_answer (Err list_faults.Memory) = Err undecoded.Memory
