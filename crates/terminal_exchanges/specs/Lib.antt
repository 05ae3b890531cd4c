pub use Rattle.bus_legal.specs.Description
pub mod Exchanges
pub mod ExchangeLaws
pub mod Values
pub mod Sent
pub mod Distinguish
pub mod inner
