mod Keys
mod RisingLaws
mod NameLaws
mod StampLaws
mod DiskLaws
mod CommandActSteps
