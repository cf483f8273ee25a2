pub mod FirstBus
pub mod FirstHost
