mod SpeedByCar
